use Rattle.scene_text.proofs.Words.{◌≡◌, Some, rules, key_of, name-key_of}
use Rattle.scene_text.proofs.drafts.Draft.take_statement.Goals as goal

pub returns-clause-given : goal.returns-clause-given
returns-clause-given c =
    let found : key_of c.args.version c.args.word.now ≡ Some c.in_ok-key.key = search rules in
    rw (name-key_of c.args.version c.args.word.now c.in_ok-key.key found) c.take_field.ensures.given
