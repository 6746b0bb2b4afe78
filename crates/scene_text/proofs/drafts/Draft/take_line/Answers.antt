use Rattle.scene_text.proofs.Words.{◌≡◌, ◌∷◌, true, false, Some, None, refl, rules, ap, ◌∙◌, words_of, is_skipped, version_of, supported}
use Rattle.scene_text.proofs.DraftLemmas.{given-version, TakesLine-skipped, TakesLine-version, TakesLine-statement, OnOk-three}
use Rattle.scene_text.proofs.drafts.Draft.take_line.Goals as goal

pub returns-in_default-clause-taken : goal.returns-in_default-clause-taken
returns-in_default-clause-taken c =
    TakesLine-skipped c.args.self.now (words_of c.args.line.now) (ap is_skipped c.in_default.ensures.none)

pub returns-then-eq-clause-taken : goal.returns-then-eq-clause-taken
returns-then-eq-clause-taken c =
    let comment : is_skipped (c.in-Some.word.now ∷ words_of c.in-Some.words.now) ≡ true = search rules in
    TakesLine-skipped c.args.self.now (words_of c.args.line.now) (ap is_skipped c.in-Some.ensures.some ∙ comment)

pub returns-in-Some-version-clause-taken : goal.returns-in-Some-version-clause-taken
returns-in-Some-version-clause-taken c =
    let kept : is_skipped (c.in-Some.word.now ∷ words_of c.in-Some.words.now) ≡ false = search rules in
    let taken = c.take_statement.ensures in
    rw c.in-Some.ensures.some (OnOk-three c.take_statement.result
    (TakesLine-statement c.args.self.now c.take_statement.new.self (c.in-Some.word.now ∷ words_of c.in-Some.words.now) c.in-Some-version.version kept
    c.in-Some-version.is) taken.sound taken.version taken.given)

pub returns-clause-taken : goal.returns-clause-taken
returns-clause-taken c =
    let kept : is_skipped (c.in-Some.word.now ∷ words_of c.in-Some.words.now) ≡ false = search rules in
    let old = c.args.self.now in
    let unread : old.version ≡ None = search rules in
    let version = c.in-Some-version_of.version in
    let named : version_of supported.reads (c.in-Some.word.now ∷ words_of c.in-Some.words.now) ≡ Some version = search rules in
    rw c.in-Some.ensures.some (TakesLine-version old (record old { version = Some version }) (c.in-Some.word.now ∷ words_of c.in-Some.words.now) version kept
    unread named refl (given-version old (Some version)))
