use Rattle.report_judge.proofs.Words.{◌≡◌, List, ℕ, ◌++◌, Bor, Decides-eqb, strip_prefix_is}
use Rattle.report_judge.proofs.Texts.FieldWords.{none_of, some_of}
use Rattle.report_judge.proofs.reading.fields.after.Goals as goal

pub returns-clause-some : goal.returns-clause-some
returns-clause-some c =
    some_of c.strip_prefix.result ((rest : List ℕ) → c.args.text.now ≡ c.args.word.now ++ rest → ⊥)
    (λ (rest : Bor (List ℕ)). c.args.text.now ≡ c.args.word.now ++ rest.now)
    (strip_prefix_is Decides-eqb c.args.text.now c.args.word.now c.strip_prefix.result c.strip_prefix.ensures.cases)

pub returns-clause-none : goal.returns-clause-none
returns-clause-none c =
    none_of c.strip_prefix.result ((rest : List ℕ) → c.args.text.now ≡ c.args.word.now ++ rest → ⊥)
    (λ (rest : Bor (List ℕ)). c.args.text.now ≡ c.args.word.now ++ rest.now)
    (strip_prefix_is Decides-eqb c.args.text.now c.args.word.now c.strip_prefix.result c.strip_prefix.ensures.cases)
