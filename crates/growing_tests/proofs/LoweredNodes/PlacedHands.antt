-- A node in hand that was placed, whose near nodes may be rewired then.
use Rattle.growing_tests.proofs.Words.{◌≡◌, ℕ, ◌<◌, Some, All, IfSome, IsPlacing, Placing, Placed, Same, BelongsTo, GoesOn, PassState, SharedState, at_hand}
use Rattle.growing_tests.proofs.Words.{if_hand, share, Hand, Counted, IsInReach, HasPlaced-placed, IsSome-placed, HasNearInReach, IfPlaced, MayRewire}
use Rattle.growing_tests.proofs.LoweredNodes.ReachedNodes.{All-in_reach-later}

pub MayRewire-placed : (shared : SharedState) (before after : PassState) (k : ℕ) (hand : Hand) (result : Placing) → BelongsTo after shared
    → 0 < share after.view → GoesOn before.view after.view → before.view.hand ≡ Some hand → hand.mark ≡ k → HasNearInReach before
    → after.lists.near ≡ before.lists.near → IfSome before.view.hand (λ h. IsPlacing after.view h result) → IfPlaced result (MayRewire shared k after)
MayRewire-placed shared before after k hand (Same j) belongs part goes_on held mark reach near placing = tt
MayRewire-placed shared before after k hand Placed belongs part goes_on held mark reach near placing =
    let placed = at_hand (λ h. IsPlacing after.view h Placed) before.view.hand hand held placing in
    let counted : Hand = record hand { stage = Counted } in
    let all = at_hand (λ h. All (IsInReach before.view h.point) before.lists.near) before.view.hand hand held reach in
    record {
      belongs = belongs;
      part = part;
      hand = IsSome-placed after.view hand placed;
      placed = HasPlaced-placed after.view k hand placed mark;
      near = if_hand (λ h. All (IsInReach after.view h.point) after.lists.near) after.view.hand counted placed.counted
          (All-in_reach-later before.view after.view hand.point before.lists.near after.lists.near goes_on near all);
    }
