use Rattle.plan_model.proofs.MarkBounds.{columns-within, rows-within}
use Rattle.strip_sampler.proofs.draws.drawn.Goals as goal

pub columns_of_strip-strip-requires-clause-end : goal.columns_of_strip-strip-requires-clause-end
columns_of_strip-strip-requires-clause-end c = rw c.requires.columns (columns-within c.args.scene.now).end

pub picked-requires-2 : goal.picked-requires-2
picked-requires-2 c = rw c.requires.rows (rows-within c.args.scene.now).end
