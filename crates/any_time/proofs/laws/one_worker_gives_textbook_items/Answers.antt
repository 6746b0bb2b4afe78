use Rattle.any_time.proofs.TextbookSlices.{gives_textbook_items}
use Rattle.any_time.proofs.laws.one_worker_gives_textbook_items.Goals as goal

pub returns : goal.returns
returns c = gives_textbook_items
