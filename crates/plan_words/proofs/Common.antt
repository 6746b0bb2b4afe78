-- The names that proofs of the crates above cite, passed on from one place. Declares nothing.
pub use Rattle.plan_words.proofs.Claiming.{KeepsHand-trans}
pub use Rattle.plan_words.proofs.GoingOn.{BelongsTo-later, GoesOn-more, GoesOn-refl, GoesOn-trans, HasGoneOn}
pub use Rattle.plan_words.proofs.HandSteps.{IsLinkedAt-counted, NamesNode-child, at_hand, leads_seen, some_hand}
pub use Rattle.plan_words.proofs.KeptPairs.{if_hand}
pub use Rattle.plan_words.proofs.NearestParents.{IsBounded-hand, MayHang-nearest, MayHang-start}
pub use Rattle.plan_words.proofs.PlainScenes.{no_goals}
pub use Rattle.plan_words.proofs.PostedGoals.{HasPostedGoals-children, HasPostedGoals-more, HasPostedGoals-same, HasPostedGoals-step, SeesGoal-kept}
pub use Rattle.plan_words.proofs.Posting.{goal-at, lies-at}
pub use Rattle.plan_words.proofs.RisingNumbers.{Contains-number, distinct_numbers, eqb-swap, same_numbers}
pub use Rattle.plan_words.proofs.Tying.{HasMember-held, entry_fits}
pub use Rattle.plan_words.proofs.WholeClaims.{OwnsAllStrips-alone}
pub use Rattle.plan_words.proofs.SeatSteps.{HasLooked-loaded, HasLooked-one, HasLooked-refl, IsOrPosted-trans, KeepsOrPosts-trans}
pub use Rattle.plan_words.proofs.SeatSteps.{SeesBestSince-trans}
pub use Rattle.plan_words.specs.Nodes.{FindsGoalNode, HasPostedGoals, IsOrPosted, KeepsOrPosts, OnlyPosts, SeesBestSince, HasLinked, IsLinkedAt, LeadsOn}
pub use Rattle.plan_words.specs.Nodes.{NamesChildOrPoint, NamesNode, IsPairIn}
pub use Rattle.plan_words.specs.Claims.{AllFull, AllLoaded, HasNoneLeft, IsClaimed, IsLeastOpen, KeepsHand, RaisesCounter, SeesAsBefore}
pub use Rattle.plan_words.specs.LoweredChildren.{CostsAtMostThrough, HasQueued, IsFound, IsLoweredChild, LooksOn, LowersChildren, SeesSamePoints}
pub use Rattle.plan_words.specs.SearchLists.{SearchLists, is_dearer, no_search, numbers_of, point_of_spot, weighed, HasSeenParent, IsOn}
pub use Rattle.plan_words.specs.States.{BelongsTo, GoesOn, HasWholeShare, Lists, MayClaim, PassState, SharedState, StartsAs, new_pass, run_in, tree_words}
pub use Rattle.plan_words.specs.States.{turn_of, with_lists, with_view, without_best, worker_of}
