-- A pass that works alone handles a mark as in the textbook: what its steps lead to.
use Rattle.plan_work.proofs.Words.{◌≡◌, ℕ, suc, Some, None, [], ◌∷◌, ◌++◌, refl, sym, ap, ◌∙◌, subst, SeesPlacing, Placing, Clear, mark_at, IsFree, point_of}
use Rattle.plan_work.proofs.Words.{MayBeCheaper, SteersTo, Reaches, Reached, SameNode, NoWay, Steered, ending_of, points_of, sum_of, Point, Blocked, Record}
use Rattle.plan_work.proofs.Words.{FirstOf, PointOf, TreeOf, SeesAsBefore, GoesOn, PassState, SharedState, turn_of, with_view, worker_of, HasSteered}
use Rattle.plan_work.proofs.Words.{HasRecorded, KeepsRecords, own_unplaced, IsNotSkippedIn, SeesTextbook, WorksAlone, IsFilledWhole, IsSteeredWhole, KeepsNode}
use Rattle.plan_work.proofs.Words.{KeepsOthers, SeesButCount, pointed, SeesPoint, sees, setup_in, tree_seen, Hand, View}
use Rattle.kd_shared.specs.declared.placing.Placing.TheVariants.{Placed, Same}
use Rattle.plan_model.specs.declared.records.Outcome.TheVariants.{Same as SameMark}
use Rattle.plan_work.proofs.AloneMarks.{KeepsRun-refl, SeesTextbook-recorded, SeesTextbook-still, WorksAlone-recorded, WorksAlone-still}
use Rattle.plan_work.proofs.MirroredTrees.{Mirrors-absent, SteersTo-mirrored, point_of-mirrored}
use Rattle.plan_work.proofs.SkippedAlone.{IsNotSkippedIn-kept, MayBeCheaper-mirrored}
use Rattle.plan_work.proofs.TextbookSteps.{Handles-steered}
use Rattle.plan_work.proofs.WholeLists.{IsFilledWhole-still, IsSteeredWhole-found, IsSteeredWhole-still}

-- the others are kept from one view to another if each of them that was kept is
kept_others :
    (one mid other after : View) (k : ℕ) (placing : Placing) → ((n : ℕ) → KeepsNode one mid n → KeepsNode other after n)
    → KeepsOthers one mid k placing → KeepsOthers other after k placing
kept_others one mid other after k Placed kept others = λ n apart. kept n (others n apart)
kept_others one mid other after k (Same j) kept others = λ n. kept n (others n)

-- nodes are kept by calls that show nothing new before
pub KeepsOthers-after : (before mid after : View) (k : ℕ) (placing : Placing) → SeesAsBefore before mid → KeepsOthers mid after k placing
    → KeepsOthers before after k placing
KeepsOthers-after before mid after k placing same = kept_others mid after before after k placing (λ n node. record {
  point = node.point ∙ same (PointOf n);
  tree = node.tree ∙ same (TreeOf n);
  first = node.first ∙ same (FirstOf n);
})

-- and by calls that show nothing new then
pub KeepsOthers-then : (before mid after : View) (k : ℕ) (placing : Placing) → KeepsOthers before mid k placing → SeesAsBefore mid after
    → KeepsOthers before after k placing
KeepsOthers-then before mid after k placing others same = kept_others before mid before after k placing (λ n node. record {
  point = same (PointOf n) ∙ node.point;
  tree = same (TreeOf n) ∙ node.tree;
  first = same (FirstOf n) ∙ node.first;
}) others

-- of a placing that a pass with the share of all workers makes
pub KeepsOthers-placing : (before after : View) (hand : Hand) (placing : Placing) → SeesPlacing before after hand placing
    → KeepsOthers before after hand.mark placing
KeepsOthers-placing before after hand Placed linked = λ n apart. record {
  point = linked.others (PointOf n) apart;
  tree = linked.others (TreeOf n) apart;
  first = linked.others (FirstOf n) apart;
}
KeepsOthers-placing before after hand (Same j) same = λ n. record { point = same (PointOf n); tree = same (TreeOf n); first = same (FirstOf n) }

-- The pass has steered mark k to p, and was shown nothing new but the count.
module _
    (shared : SharedState) (before found : PassState) (hand : Hand) (k m : ℕ) (from p : Point) (keeps : KeepsRecords shared before found)
    (steers : HasSteered before.view found.view k m from p) (held : found.view.hand ≡ Some hand) (mark : hand.mark ≡ k)
    (same : SeesButCount before.view found.view) (begun : WorksAlone before.view k) (read : SeesTextbook before.view k)
    (cheaper : IsNotSkippedIn before.view k) where
  alone : WorksAlone found.view k
  alone = WorksAlone-still before.view found.view k keeps.goes_on.later.run keeps.crew begun

  book : SeesTextbook found.view k
  book = SeesTextbook-still before.view found.view k keeps.goes_on.later same read

  cheaper_still : IsNotSkippedIn found.view k
  cheaper_still = IsNotSkippedIn-kept before.view found.view k keeps.goes_on.later same cheaper

  cheaper_tree : MayBeCheaper (setup_in found.view.run) (sum_of book.tree) (points_of book.tree) (mark_at found.view.run.marks k)
  cheaper_tree = MayBeCheaper-mirrored found.view book.tree book.nodes k cheaper_still

  steers_whole : IsSteeredWhole found.view k m p
  steers_whole = IsSteeredWhole-found before.view found.view keeps.goes_on.later.run (λ n. same (PointOf n) (λ e. cc)) k m from p steers

  steers_tree : SteersTo (setup_in found.view.run) (points_of book.tree) (mark_at found.view.run.marks k) m p
  steers_tree = SteersTo-mirrored found.view book.tree book.nodes (mark_at found.view.run.marks k) p m steers_whole

  -- ---- without a node

  module _ (done : PassState) (entry : Record) (recorded : HasRecorded shared found done entry) where
    unplaced : (reached : Reached) → ending_of entry ≡ Steered m reached
        → Reaches (setup_in found.view.run) book.tree k m p reached (book.tree ++ None ∷ []) → WorksAlone done.view (suc k) × SeesTextbook done.view (suc k)
    unplaced reached is reaches = (
      WorksAlone-recorded shared found.view found done hand k entry recorded held mark (KeepsRun-refl found.view k) alone,
      SeesTextbook-recorded shared found.view found done hand k entry recorded held mark (KeepsRun-refl found.view k) book (book.tree ++ None ∷ [])
          (Handles-steered (setup_in found.view.run) book.tree k m (mark_at found.view.run.marks k) p entry reached (book.tree ++ None ∷ [])
          cheaper_tree steers_tree (recorded.worker ∙ ap worker_of alone.crew) (recorded.turn ∙ ap turn_of alone.crew) is reaches)
          (Mirrors-absent found.view book.tree book.nodes) book.best,
    )

    -- a node stands at p
    pub AloneNext-found : (j : ℕ) → entry ≡ own_unplaced found.view m (SameMark j) → SeesPoint found.view j p
        → WorksAlone done.view (suc k) × SeesTextbook done.view (suc k)
    AloneNext-found j is stands = unplaced (SameNode j) (ap ending_of is) (sym (book.nodes.points j) ∙ stands, refl)

    -- or the segment to it is blocked
    pub AloneNext-blocked : IsFree (tree_seen found.view).points p
        → ¬ Clear (setup_in found.view.run).space (point_of (tree_seen found.view).points m) p
        → entry ≡ own_unplaced found.view m Blocked → WorksAlone done.view (suc k) × SeesTextbook done.view (suc k)
    AloneNext-blocked free blocked is = unplaced NoWay (ap ending_of is) (
      record {
        free = λ j stands. free j (book.nodes.points j ∙ stands);
        blocked = λ clear.
            blocked (subst (λ a. Clear (setup_in found.view.run).space a p) (sym (point_of-mirrored found.view book.tree book.nodes m)) clear);
      },
      refl,
    )

  -- ---- with its point written

  module _ (written : PassState) (goes_on : GoesOn found.view written.view) (is : written ≡ with_view found (pointed found.view hand m p)) where
    unshown : SeesAsBefore found.view written.view
    unshown name = ap (λ (x : PassState). sees x.view name) is

    pub WorksAlone-written : WorksAlone written.view k
    WorksAlone-written = WorksAlone-still found.view written.view k goes_on.later.run (ap (λ (x : PassState). x.view.crew) is) alone

    pub SeesTextbook-written : SeesTextbook written.view k
    SeesTextbook-written = SeesTextbook-still found.view written.view k goes_on.later (λ name other. unshown name) book

    pub IsNotSkippedIn-written : IsNotSkippedIn written.view k
    IsNotSkippedIn-written = IsNotSkippedIn-kept found.view written.view k goes_on.later (λ name other. unshown name) cheaper_still

    pub IsSteeredWhole-written : IsSteeredWhole written.view k m p
    IsSteeredWhole-written = IsSteeredWhole-still found.view written.view goes_on.later.run (λ n. unshown (PointOf n)) k m p steers_whole

    pub IsFilledWhole-written : (class : ℕ) → IsFilledWhole found.view p class found.lists.search.found → IsFilledWhole written.view p class
        written.lists.search.found
    IsFilledWhole-written class filled =
        subst (IsFilledWhole written.view p class) (sym (ap (λ (x : PassState). x.lists.search.found) is))
        (IsFilledWhole-still found.view written.view goes_on.later.run (λ n. unshown (PointOf n)) p class found.lists.search.found filled)
