-- A pass goes on by a join and the load that follows it.
use Rattle.plan_words.proofs.Words.{◌≡◌, ℕ, ◌<◌, ◌≤◌, ◌^◌, Bool, List, [], ◌∷◌, ◌++◌, length, Option, false, true, refl, sym, ap, ◌∙◌, subst, arith, ◌==◌, ◌&&◌}
use Rattle.plan_words.proofs.Words.{cond, nat_le, nat_lt, slice_index, option_or, Me, Aim, Tells, GoesOn, HasPairs, first_member, IsLater, IsLawfulView, joined}
use Rattle.plan_words.proofs.Words.{loaded, place_in, run_sizes, sees, took_over, words_of_run, IsLater-joined, IsLater-trans, word_at-merged, AreBehind}
use Rattle.plan_words.proofs.Words.{later_word, Falling, Count, TreeOf, cost_in, Hand, Member, View}
use Rattle.plan_words.proofs.KeptPairs.{Keeps, keeps_saw}

-- A seat that took over another, and loaded the count then.
module _ (seat other : View) (slots : List (ℕ × Aim)) (after : Me Aim View) (x : ℕ)
    (told : Tells (joined seat other, slots) (loaded (joined seat other) Count x) after) where
  pub GoesOn-taken_over : IsLawfulView seat → GoesOn seat after.0
  GoesOn-taken_over lawful = record {
    was_lawful = lawful;
    later = subst (IsLater seat) (sym told.view_is)
        (IsLater-trans seat (joined seat other) (loaded (joined seat other) Count x) (IsLater-joined seat other) told.goes_on.later);
    lawful = subst IsLawfulView (sym told.view_is) told.goes_on.lawful;
  }

  -- It has seen at least what the other had.
  pub AreBehind-taken_over : other.run ≡ seat.run → AreBehind (sees other) (sees after.0)
  AreBehind-taken_over same =
      let lawful : IsLawfulView after.0 = subst IsLawfulView (sym told.view_is) told.goes_on.lawful in
      subst (λ words. AreBehind words (sees after.0)) (ap took_over told.view_is ∙ ap (λ r. words_of_run r other.seen) (sym same)) lawful.took

-- ---- what the pass keeps

-- the first of both crews is that of the one, or of the other if the one is empty
pub first-joined : (crew other : List Member) → first_member (crew ++ other) ≡ option_or (first_member crew) (first_member other)
first-joined [] other = refl
first-joined (member ∷ crew) other = refl

-- the tree words that either has seen, at the lower costs
HasPairs-joined :
    (view other : View) (pairs others now : List ℕ) → other.run ≡ view.run → HasPairs view pairs → HasPairs other others → length now ≡ length pairs
    → ((n : ℕ) → n < length pairs → slice_index now n ≡ later_word Falling (slice_index pairs n) (slice_index others n)) → HasPairs (joined view other) now
HasPairs-joined view other pairs others now same has theirs sized taken = record {
  for_each = sized ∙ has.for_each;
  seen = λ n within.
      taken n (omega (arith, has.for_each, within)) ∙ ap (λ w. later_word Falling w (slice_index others n)) (has.seen n within)
      ∙ ap (later_word Falling (sees view (TreeOf n)))
      (theirs.seen n (subst (λ r. n ≤ length r.marks) (sym same) within) ∙ ap (λ r. words_of_run r other.seen (TreeOf n)) same)
      ∙ sym (word_at-merged (run_sizes view.run) view.seen other.seen (TreeOf n));
}

pub keeps_taken_over :
    (me after : Me Aim View) (other : View) (own member : Option Member) (hand : Option Hand) (for_spots for_near for_around for_waiting : ℕ)
    (pairs others now : List ℕ) (x : ℕ) → Tells (joined me.0 other, me.1) (loaded (joined me.0 other) Count x) after
    → Keeps me own hand for_spots for_near for_around for_waiting pairs → other.run ≡ me.0.run → HasPairs other others
    → member ≡ first_member (me.0.crew ++ other.crew)
    → length now ≡ length pairs
    → ((n : ℕ) → n < length pairs → slice_index now n ≡ later_word Falling (slice_index pairs n) (slice_index others n))
    → Keeps after member hand for_spots for_near for_around for_waiting now
keeps_taken_over me after other own member hand for_spots for_near for_around for_waiting pairs others now x told (none, tied, room, has) same theirs
    member_is sized taken =
    let mid : Me Aim View = (joined me.0 other, me.1) in
    let kept : Keeps mid member hand for_spots for_near for_around for_waiting now = (
      none,
      record { member_is = member_is; hand_is = tied.hand_is; lawful = told.goes_on.was_lawful },
      room,
      HasPairs-joined me.0 other pairs others now same has theirs sized taken,
    ) in
    keeps_saw mid after member hand for_spots for_near for_around for_waiting now Count (place_in mid.0 Count) x x told kept tt refl (λ n e. cc)

-- ---- the later of two tree words

-- it is one of them
pub later_word-either : (has : ℕ → Type 0) (one other : ℕ) → has one → has other → has (later_word Falling one other)
later_word-either has one other own theirs = by_tests (one == 0) (nat_le (2 ^ 63) other && nat_lt (cost_in other) (cost_in one))
  where
    by_tests : (none cheaper : Bool) → has (cond none other (cond cheaper other one))
    by_tests true cheaper = theirs
    by_tests false true = theirs
    by_tests false false = own
