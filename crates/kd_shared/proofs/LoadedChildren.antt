-- A loaded child is queued with its point.
use Rattle.kd_shared.proofs.Words.{◌≡◌, ℕ, zero, suc, ◌≤◌, Bool, true, false, not, List, [], ◌∷◌, ◌++◌, Some, arith, refl, sym, ap, ◌∙◌, subst, inl, inr, ◌==◌}
use Rattle.kd_shared.proofs.Words.{if◌then◌else◌, cases_eq, ne_eqb, Point, IsLaterMoment, KeepsSight, Sight, point_at, point_of, StandsAt-present}
use Rattle.kd_shared.proofs.Words.{IsLaterMoment-trans, child_of_word, point_in, FindsEmpty, KeepsPoints, LoadsChild, LoadsPoint, QueuesChild, QueuesWithin}
use Rattle.kd_shared.proofs.Words.{Spot}

module _ (before mid after : Sight) (keeps : KeepsSight before) where
  -- what was found empty is so since
  FindsEmpty-then : (n : ℕ) (side : Bool) → before.steps ≤ mid.steps → IsLaterMoment mid after → FindsEmpty before mid n side → FindsEmpty before after n side
  FindsEmpty-then n side past later empty =
      elim (later.empty n side) [
        | inl same ↦ omega (arith, empty, same)
        | inr (since, none) ↦ omega (arith, past, since)
      ]

  -- the point of node 0 was seen before
  KeepsPoints-start : (p : Point) → KeepsPoints before mid → IsLaterMoment before mid → LoadsPoint mid after 0 p → KeepsPoints before after
  KeepsPoints-start p points later load n =
      let KeepsAt : ℕ → Type 0 = λ m. point_at after.seen.points m ≡ point_at before.seen.points m in
      elim (cases_eq n 0) [
        | inl start ↦ (
            let stands = StandsAt-present before.seen.points 0 keeps.rooted.start in
            let still = load.later.seen.places.nodes 0 (point_of before.seen.points 0)
            (later.seen.places.nodes 0 (point_of before.seen.points 0) stands) in
            subst KeepsAt (sym start) (still ∙ sym stands))
        | inr apart ↦ load.others n apart ∙ points n
      ]

  module _ (spots put : List Spot) (spot : Spot) (side : Bool) (child chosen word : ℕ)
      (load : LoadsChild before mid spot.node side (child_of_word child)) (point : LoadsPoint mid after chosen (point_in word)) where
    abbrev here : Spot
    here = record { node = chosen; by_rows = not spot.by_rows; word = word }

    later_then : IsLaterMoment before after
    later_then = IsLaterMoment-trans before mid after load.later point.later

    keeps_points : chosen ≡ 0 → KeepsPoints before after
    keeps_points none = KeepsPoints-start (point_in word) load.points load.later (subst (λ n. LoadsPoint mid after n (point_in word)) none point)

    -- there is none, or one that waits now,
    queues_found : (number : ℕ) → chosen ≡ number → child ≡ number → put ≡ (if not (number == 0) then spots ++ here ∷ [] else spots)
        → QueuesChild before after spots put spot side
    queues_found zero none is same = record {
      later = later_then;
      keeps = point.keeps;
      queues = inl (
        FindsEmpty-then spot.node side load.later.steps point.later (subst (λ w. LoadsChild before mid spot.node side (child_of_word w)) is load).finds,
        same,
        keeps_points none,
      );
    }
    queues_found (suc c) some is same = record {
      later = later_then;
      keeps = point.keeps;
      queues = inr (
        record {
          child = here;
          link = point.later.seen.places.children spot.node chosen side
              ((subst (λ w. LoadsChild before mid spot.node side (child_of_word w)) is load).finds ∙ ap Some (sym some));
          by_rows = refl;
          last = same ∙ ap (λ b. if not b then spots ++ here ∷ [] else spots) (ne_eqb (suc c) 0 (λ e. cc));
        },
        point.stands,
        (λ n apart. point.others n apart ∙ load.points n),
      );
    }

    -- or it is left out.
    pub QueuesWithin-loaded : (within : Bool) → chosen ≡ (if within then child else 0)
        → put ≡ (if not (chosen == 0) then spots ++ here ∷ [] else spots) → QueuesWithin before after spots put spot side within
    QueuesWithin-loaded false none same = inl (
      refl,
      record {
        later = later_then;
        keeps = point.keeps;
        same = same ∙ ap (λ n. if not (n == 0) then spots ++ here ∷ [] else spots) none;
        points = keeps_points none;
      },
    )
    QueuesWithin-loaded true is same = inr (queues_found child is refl (same ∙ ap (λ n. if not (n == 0) then spots ++ here ∷ [] else spots) is))
