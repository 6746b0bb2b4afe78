-- One mark of a pass that works alone is one mark of the textbook run.
use Rattle.plan_work.proofs.Words.{◌≡◌, ℕ, suc, ◌+◌, ◌<◌, ◌≤◌, List, [], ◌∷◌, ◌++◌, length, take, arith, sym, ◌∙◌, subst, length-take-le, take-suc, ClearAt}
use Rattle.plan_work.proofs.Words.{mark_at, KeepsOrder, Ends, Handles, IsTextbookRun, MayBeCheaper, Nodes, Setup, SteersTo, Reaches, Reached, start_alone}
use Rattle.plan_work.proofs.Words.{points_of, sum_of, state_of, Point, Steered, ending_of, Record, HandlesAll-length, HandlesAll-nodes, HandlesAll-push}
use Rattle.plan_work.proofs.Words.{IsClosed-textbook, RecordsNext}

-- ---- a run up to a mark

module _
    (setup : Setup) (marks : List Point) (k : ℕ) (tree : Nodes) (records : List Record) (within : k ≤ length marks)
    (run : IsTextbookRun setup (take k marks) tree records) where
  so_many : length (take k marks) ≡ k
  so_many = length-take-le k marks within

  pub RecordsNext-run : RecordsNext tree records k
  RecordsNext-run = record {
    nodes = omega (arith, HandlesAll-nodes setup 0 (start_alone setup.start) (take k marks) records tree run, so_many);
    marks = HandlesAll-length setup 0 (start_alone setup.start) (take k marks) records tree run ∙ so_many;
  }

  -- its tree keeps the order law
  pub KeepsOrder-run : ClearAt setup.space setup.start → KeepsOrder setup (state_of tree records)
  KeepsOrder-run clear = (IsClosed-textbook setup (take k marks) tree records clear run).order

  -- the next mark goes on from there
  pub IsTextbookRun-push : k < length marks → (entry : Record) (after : Nodes) → Handles setup tree k (mark_at marks k) entry after
      → IsTextbookRun setup (take (suc k) marks) after (records ++ entry ∷ [])
  IsTextbookRun-push below entry after handles =
      let here : k ≡ 0 + length (take k marks) = omega (arith, so_many) in
      subst (λ ms. IsTextbookRun setup ms after (records ++ entry ∷ [])) (sym (take-suc marks k (record { x = 0; y = 0 }) below))
      (HandlesAll-push setup 0 (start_alone setup.start) (take k marks) records tree (mark_at marks k) entry after run
      (subst (λ n. Handles setup tree n (mark_at marks k) entry after) here handles))

-- ---- the ends of a mark

-- a mark that node m steers to p is handled by what was reached there
pub Handles-steered :
    (setup : Setup) (tree : Nodes) (k m : ℕ) (mark p : Point) (entry : Record) (reached : Reached) (after : Nodes)
    → MayBeCheaper setup (sum_of tree) (points_of tree) mark → SteersTo setup (points_of tree) mark m p → entry.worker ≡ 0 → entry.turn ≡ k
    → ending_of entry ≡ Steered m reached → Reaches setup tree k m p reached after → Handles setup tree k mark entry after
Handles-steered setup tree k m mark p entry reached after cheaper steers worker turn is reaches = record {
  worker = worker;
  turn = turn;
  ends = subst (λ e. Ends setup tree k mark e after) (sym is) (record { cheaper = cheaper; point = p; steers = steers; reaches = reaches });
}
