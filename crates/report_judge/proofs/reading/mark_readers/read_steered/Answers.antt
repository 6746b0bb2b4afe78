use Rattle.report_judge.proofs.Words.{◌≡◌, ℕ, List, [], ◌∷◌, ◌++◌, sym, ap, ◌∙◌, decimal, codes, Record, line, ending_of, ending_words, Extent, field}
use Rattle.report_judge.proofs.Texts.FieldWords.{no_value}
use Rattle.report_judge.proofs.Texts.MarkParts.{nearest_first, no_ending}
use Rattle.report_judge.proofs.reading.mark_readers.read_steered.Goals as goal

-- the line of a mark that is read from what stands after its nearest node
line_of : (nearest : ℕ) (text first : List ℕ) (more : List (List ℕ)) (rest : List ℕ) (entry : Record) → text ≡ line (first ∷ more) ++ rest
    → ending_words (ending_of entry) ≡ codes "nearest" ∷ decimal nearest ∷ first ∷ more
    → field (codes "nearest ") nearest 32 text ≡ line (ending_words (ending_of entry)) ++ rest
line_of nearest text first more rest entry is words =
    ap (field (codes "nearest ") nearest 32) is ∙ sym (nearest_first nearest first more rest) ∙ ap (λ words. line words ++ rest) (sym words)

pub returns-in-Some-clause-some : goal.returns-in-Some-clause-some
returns-in-Some-clause-some c =
    let more = codes "class" ∷ decimal c.in-Some.first.class ∷ codes "first" ∷ decimal c.in-Some.first.parent ∷ decimal c.in-Some.first.cost ∷ [] in
    ap (field (codes "nearest ") c.args.nearest 32) c.in-Some.ensures.some ∙ sym (nearest_first c.args.nearest (codes "placed") more c.in-Some.rest.now)

pub returns-in-Some-read_same-clause-some : goal.returns-in-Some-read_same-clause-some
returns-in-Some-read_same-clause-some c =
    line_of c.args.nearest c.args.text.now (codes "same") (decimal c.in-Some-read_same.node ∷ []) c.in-Some-read_same.rest.now c.unplaced-entry.result
    c.in-Some-read_same.ensures.some (ap (λ (entry : Record). ending_words (ending_of entry)) c.unplaced-entry.ensures)

pub returns-clause-some : goal.returns-clause-some
returns-clause-some c =
    line_of c.args.nearest c.args.text.now (codes "blocked") [] c.in_ok-rest.rest.now c.unplaced-entry-2.result c.in_ok-rest.ensures.some
    (ap (λ (entry : Record). ending_words (ending_of entry)) c.unplaced-entry-2.ensures)

pub returns-in_err-rest-clause-none : goal.returns-in_err-rest-clause-none
returns-in_err-rest-clause-none c = λ informed.
    let extent : Extent = record { marks = c.args.marks; informed = informed } in
    no_value c.from_residual.result
    (no_ending extent c.args.nearest c.args.text.now c.requires.nearest c.requires.few (record {
      placed = c.in_default.ensures.none;
      same = c.in_default-read_same.ensures.none;
      blocked = c.in_err-rest.ensures.none;
    }))
