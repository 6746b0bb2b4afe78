-- The near list of a new node, from the count that was loaded before.
use Rattle.plan_work.proofs.Words.{◌≡◌, ℕ, ◌+◌, ◌-◌, ◌*◌, ◌^◌, ◌<◌, ◌≤◌, List, length, refl, sym, ap, ◌∙◌, subst, inl, inr, arith, nat_le, slice_index_or}
use Rattle.plan_work.proofs.Words.{range_with_len, All-map, Contains-get_or, mul-le, length-filter, AreGathered, SweepsWithin-begun, is_within-near}
use Rattle.plan_work.proofs.Words.{squared_distance, class_of, radius_of_class, Point, Record, greatest-le, count-some, IsPresent-stands, point_of-stands}
use Rattle.plan_work.proofs.Words.{distance_to, is_within, Word, Count, RecordOf, Contains-number, GoesOn, PassState, with_view, Found, IsInReach, radius_in}
use Rattle.plan_work.proofs.Words.{HasFilledNear, is_own_node, own_count, loaded, sight_in, last_look, sees, tree_seen, IsLaterMoment-later, WritesWord-looked}
use Rattle.plan_work.proofs.Words.{View, stands_later}
use Rattle.plan_work.proofs.RecordedMarks.{own_count-same}

-- a worker has the start at least
pub own_count-some : (view : View) (entry : Record) → 1 ≤ own_count view entry
own_count-some view entry =
    omega (
      arith,
      length-filter (is_own_node view entry) (range_with_len 0 (length view.run.marks + 1)),
      count-some (is_own_node view entry) (length view.run.marks + 1) 0 (omega arith) refl,
    )

-- a radius is at most the step
pub radius-most : (step gamma b : ℕ) → radius_of_class step gamma b ≤ step
radius-most step gamma b = greatest-le (λ r. nat_le (r * r * 2 ^ (b - 1)) (gamma * gamma * b)) step

square-le : (a b : ℕ) → a ≤ b → a * a ≤ b * b
square-le a b h = mul-le a a b b h h

-- a load of the count is the last look at it
pub looks_at_count : (before after : PassState) (nodes : ℕ) → after ≡ with_view before (loaded before.view Count nodes)
    → GoesOn before.view after.view → before.view.steps < last_look after.view Count
looks_at_count before after nodes is goes_on =
    let looks = WritesWord-looked before.view.run before.view goes_on.was_lawful.of_run Count tt nodes nodes in
    subst (λ v. before.view.steps < last_look v Count) (sym (ap (λ (p : PassState). p.view) is)) (omega (arith, looks.here))

-- what was loaded since a step was so still later on
pub looked_since : (name : Word) (steps : ℕ) (mid after : View) → GoesOn mid after → steps < last_look mid name → steps < last_look after name
looked_since name steps mid after goes_on since =
    elim (goes_on.later.looked name) [
      | inl same ↦ omega (arith, same, since)
      | inr later ↦ omega (arith, later, since, goes_on.was_lawful.of_run.looks name)
    ]

pub looked_still : (steps : ℕ) (mid after : View) → GoesOn mid after → steps < last_look mid Count → steps < last_look after Count
looked_still = looked_since Count

-- What a search found after the count was loaded.
pub HasFilledNear-found :
    (before mid after : View) → GoesOn before mid → GoesOn mid after → (p : Point) (nodes class : ℕ) (found : List Found)
    → before.steps < last_look mid Count → ((entry : Record) → own_count before entry ≤ nodes) → sees after Count ≡ nodes → class ≡ class_of nodes
    → AreGathered (sight_in mid) (sight_in after) p (radius_in after class) found → HasFilledNear before after p class found
HasFilledNear-found before mid after one other p nodes class found looked own count is gathered =
    let later = IsLaterMoment-later before mid one.later in
    let next = IsLaterMoment-later mid after other.later in
    let r : ℕ = radius_in after class in
    let points = (tree_seen after).points in
    record {
      class_is = is ∙ ap class_of (sym count);
      looked = looked_still before.steps mid after other looked;
      counted = λ entry. omega (arith, own entry, count);
      all = λ i q stands close.
          gathered.all i (ap (is_within p r) (next.seen.places.nodes i q (stands_later before mid one i q stands)) ∙ is_within-near p r q close);
      in_reach =
          All-map (IsInReach after p) (λ (f : Found). f.node) found (λ k d below.
          let f : Found = slice_index_or found k d in
          let here = gathered.only f (Contains-get_or found k d below) in
          let at = point_of-stands points f.node here.0 here.1 in
          let bound = square-le r after.run.step (radius-most after.run.step after.run.gamma class) in
          record {
            present = IsPresent-stands points f.node here.0 here.1;
            short = omega (arith, ap (λ a. squared_distance a p) at, here.2, here.3, bound);
          });
      measured = λ k d below.
          let f : Found = slice_index_or found k d in
          let here = gathered.only f (Contains-get_or found k d below) in
          record {
            present = IsPresent-stands points f.node here.0 here.1;
            distance = here.2 ∙ ap (λ a. squared_distance a p) (sym (point_of-stands points f.node here.0 here.1));
          };
      close = λ i among.
          let f = Contains-number found i among in
          let here = gathered.only f.0 f.1 in
          subst (λ n. distance_to p points n ≤ r * r) f.2
          (omega (arith, ap (λ a. squared_distance a p) (point_of-stands points f.0.node here.0 here.1), here.2, here.3));
      swept = SweepsWithin-begun (sight_in before) (sight_in mid) (sight_in after) p (r * r) later gathered.swept;
    }

-- It is filled for a call that began earlier, if no record was seen anew before it was.
pub HasFilledNear-begun :
    (first before after : View) → GoesOn first before → ((k : ℕ) → sees before (RecordOf k) ≡ sees first (RecordOf k)) → (p : Point) (class : ℕ)
    (found : List Found) → HasFilledNear before after p class found → HasFilledNear first after p class found
HasFilledNear-begun first before after one records p class found h = record {
  class_is = h.class_is;
  looked = omega (arith, h.looked, one.later.steps);
  counted = λ entry. omega (arith, h.counted entry, own_count-same first before entry one records);
  all = λ i q stands close. h.all i q (stands_later first before one i q stands) close;
  in_reach = h.in_reach;
  measured = h.measured;
  close = h.close;
  swept =
      SweepsWithin-begun (sight_in first) (sight_in before) (sight_in after) p (radius_in after class * radius_in after class)
      (IsLaterMoment-later first before one.later) h.swept;
}
