use Rattle.report_judge.proofs.Words.{◌≡◌, ℕ, sym, ap, ◌∙◌, subst, Point, Record, Ending, Steered, Reached, NewNode, SameNode, NoWay, SkippedBy, ending_as}
use Rattle.report_judge.proofs.Words.{true≢false, ending_of, first_hanging, ReachesLawfully, Setup, TreeState, setup_by, IsReachedLawfully}
use Rattle.report_judge.proofs.marks.lawful_marks.ends_lawfully.Goals as goal

-- what was reached, if a node steered
reached_in : Ending → Reached
reached_in (Steered m reached) = reached
reached_in (SkippedBy g) = NoWay

-- it is lawful as what the record says that it is
reached_as :
    {setup : Setup} {state : TreeState} {k : ℕ} {entry : Record} {p : Point} {reached : Reached} → ending_of entry ≡ Steered entry.nearest reached
    → IsReachedLawfully setup state k entry p → ReachesLawfully setup state k entry entry.nearest reached p
unfolding reached_in
reached_as {setup} {state} {k} {entry} {p} is h =
    subst (λ r. ReachesLawfully setup state k entry entry.nearest r p) (ap reached_in (sym h.ending ∙ is)) h.lawful

pub returns-then-is_chosen_lawfully : goal.returns-then-is_chosen_lawfully
returns-then-is_chosen_lawfully g c =
    let ending = ap (ending_as c.args.marked.entry) c.in-Placed.is in
    let chosen = c.is_chosen_lawfully.ensures.0 c.if-is_chosen_lawfully.true in (
      λ h. (
        chosen.0,
        record {
          reached = NewNode (first_hanging c.args.marked.entry);
          ending = ending;
          lawful = record { by_worker = chosen.1; by_tree = c.hangs_lawfully.ensures.0 h };
        },
      ),
      λ both. c.hangs_lawfully.ensures.1 (reached_as {reached = NewNode (first_hanging c.args.marked.entry)} ending both.1).by_tree,
    )

pub returns-else-is_chosen_lawfully : goal.returns-else-is_chosen_lawfully
returns-else-is_chosen_lawfully g c = (
  λ h. absurd (true≢false (sym h ∙ c.if-is_chosen_lawfully.false)),
  λ both.
      let entry = c.args.marked.entry in
      let placed = reached_as {reached = NewNode (first_hanging entry)} (ap (ending_as entry) c.in-Placed.is) both.1 in
      c.is_chosen_lawfully.ensures.1 (both.0, placed.by_worker),
)

pub returns-in-Skipped : goal.returns-in-Skipped
returns-in-Skipped g c = (λ h. cc, λ both. absurd (let skipped = sym (ap (ending_as c.args.marked.entry) c.in-Skipped.is) ∙ both.1.ending in cc))

pub returns-then-is_nearest : goal.returns-then-is_nearest
returns-then-is_nearest g c =
    let ending = ap (ending_as c.args.marked.entry) c.in-Same.is in
    let stands = c.stands_at.ensures c.args.judged.now.records.now in (
      λ h. (c.is_nearest.ensures.0 c.if-is_nearest.true, record { reached = SameNode c.in-Same.node; ending = ending; lawful = stands.0 h }),
      λ both. stands.1 (reached_as {reached = SameNode c.in-Same.node} ending both.1),
    )

pub returns-then-is_nearest-2 : goal.returns-then-is_nearest-2
returns-then-is_nearest-2 g c =
    let ending = ap (ending_as c.args.marked.entry) c.in-Blocked.is in
    let blocked = c.is_blocked_lawfully.ensures (setup_by c.args.judged.now) (sym c.requires.asked.space_is) in (
      λ h. (c.is_nearest-in-Blocked.ensures.0 c.if-is_nearest-2.true, record { reached = NoWay; ending = ending; lawful = blocked.0 h }),
      λ both. blocked.1 (reached_as {reached = NoWay} ending both.1),
    )
