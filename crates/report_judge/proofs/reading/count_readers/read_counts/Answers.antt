use Rattle.report_judge.proofs.Words.{ℕ, List, arith, sym, ap, ◌∙◌, codes, field, Tally}
use Rattle.report_judge.proofs.Texts.CountParts.{last_counts, parts-counts}
use Rattle.report_judge.proofs.Texts.FieldWords.{no_value}
use Rattle.report_judge.proofs.reading.count_readers.read_counts.Goals as goal

-- the line from each of its numbers on
abbrev from_blocked : Tally → List ℕ → List ℕ
from_blocked tally rest = last_counts tally.blocked tally.skipped rest

abbrev from_same : Tally → List ℕ → List ℕ
from_same tally rest = field (codes "same ") tally.same 32 (from_blocked tally rest)

abbrev from_placed : Tally → List ℕ → List ℕ
from_placed tally rest = field (codes "placed ") tally.placed 32 (from_same tally rest)

pub returns-in_err-nodes-clause-none : goal.returns-in_err-nodes-clause-none
returns-in_err-nodes-clause-none c =
    no_value c.from_residual.result (λ tally rest fits e.
    c.in_err-nodes.ensures.none tally.nodes (from_placed tally rest) (omega (arith, fits.nodes)) (e ∙ parts-counts tally rest))

pub returns-in_err-placed-clause-none : goal.returns-in_err-placed-clause-none
returns-in_err-placed-clause-none c =
    no_value c.from_residual-in_err-placed.result (λ tally rest fits e.
    let nodes = c.in_ok-nodes.ensures.only tally.nodes (from_placed tally rest) (omega (arith, fits.nodes)) (e ∙ parts-counts tally rest) in
    c.in_err-placed.ensures.none tally.placed (from_same tally rest) (omega (arith, fits.placed)) nodes.1)

pub returns-in_err-same-clause-none : goal.returns-in_err-same-clause-none
returns-in_err-same-clause-none c =
    no_value c.from_residual-in_err-same.result (λ tally rest fits e.
    let nodes = c.in_ok-nodes.ensures.only tally.nodes (from_placed tally rest) (omega (arith, fits.nodes)) (e ∙ parts-counts tally rest) in
    let placed = c.in_ok-placed.ensures.only tally.placed (from_same tally rest) (omega (arith, fits.placed)) nodes.1 in
    c.in_err-same.ensures.none tally.same (from_blocked tally rest) (omega (arith, fits.same)) placed.1)

pub returns-in_err-last-clause-none : goal.returns-in_err-last-clause-none
returns-in_err-last-clause-none c =
    no_value c.from_residual-in_err-last.result (λ tally rest fits e.
    let nodes = c.in_ok-nodes.ensures.only tally.nodes (from_placed tally rest) (omega (arith, fits.nodes)) (e ∙ parts-counts tally rest) in
    let placed = c.in_ok-placed.ensures.only tally.placed (from_same tally rest) (omega (arith, fits.placed)) nodes.1 in
    let same = c.in_ok-same.ensures.only tally.same (from_blocked tally rest) (omega (arith, fits.same)) placed.1 in
    c.in_err-last.ensures.none tally.blocked tally.skipped rest fits.blocked fits.skipped same.1)

pub returns-clause-fits : goal.returns-clause-fits
returns-clause-fits c = record {
  nodes = omega (arith, c.in_ok-nodes.ensures.some.0);
  placed = omega (arith, c.in_ok-placed.ensures.some.0);
  same = omega (arith, c.in_ok-same.ensures.some.0);
  blocked = c.in_ok-last.ensures.fits.0;
  skipped = c.in_ok-last.ensures.fits.1;
}

pub returns-clause-some : goal.returns-clause-some
returns-clause-some c =
    let tally : Tally =
    record {
      nodes = c.in_ok-nodes.nodes;
      placed = c.in_ok-placed.placed;
      same = c.in_ok-same.same;
      blocked = c.in_ok-last.last.blocked;
      skipped = c.in_ok-last.last.skipped;
    } in
    let from_sames = c.in_ok-same.ensures.some.1 ∙ ap (field (codes "same ") tally.same 32) c.in_ok-last.ensures.some in
    let from_placeds = c.in_ok-placed.ensures.some.1 ∙ ap (field (codes "placed ") tally.placed 32) from_sames in
    c.in_ok-nodes.ensures.some.1 ∙ ap (field (codes "nodes ") tally.nodes 32) from_placeds ∙ sym (parts-counts tally c.in_ok-last.rest.now)
