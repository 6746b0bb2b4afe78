-- What steps and whole marks leave of the share of a pass.
use Rattle.growing_tests.proofs.Words.{◌≡◌, ℕ, ◌<◌, Option, None, inl, inr, length, sym, ap, ◌∙◌, subst, Record, Word, BelongsTo, IsOrPosted, PassState}
use Rattle.growing_tests.proofs.Words.{SharedState, HandlesMark, share-turned, HasClaimed, HasShare, hand_with_post, Hand, PassSees}

-- a hand that may have noted a post stays empty
IsOrPosted-none : (before after : Option Hand) → before ≡ None → IsOrPosted before after → after ≡ None
IsOrPosted-none before after none (inl same) = same ∙ none
IsOrPosted-none before after none (inr (n, posts)) = posts ∙ ap (λ o. hand_with_post o n) none

-- steps that leave the hand of a pass of the tree leave it, and the pass may claim as before
pub HasShare-kept : (shared : SharedState) (before after : PassState) (n : ℕ) → BelongsTo after shared → after.view.crew ≡ before.view.crew
    → IsOrPosted before.view.hand after.view.hand → HasShare shared n before → HasShare shared n after
HasShare-kept shared before after n belongs crew posts has = record {
  may_claim = record {
    belongs = belongs;
    part = subst (λ members. 0 < length members) (sym crew) has.may_claim.part;
    idle = IsOrPosted-none before.view.hand after.view.hand has.may_claim.idle posts;
  };
  share_is = ap (λ members. length members) crew ∙ has.share_is;
}

pub HasShare-sees : (which : Word → Type 0) (shared : SharedState) (before after : PassState) (n : ℕ) → PassSees which shared before after
    → HasShare shared n before → HasShare shared n after
HasShare-sees which shared before after n sees has =
    HasShare-kept shared before after n sees.belongs sees.sees_anew.kept.crew sees.sees_anew.kept.hand has

-- a claimed mark that is handled leaves it too
pub HasClaimed-handled : (shared : SharedState) (claimed after : PassState) (n k : ℕ) (entry : Record) → HandlesMark shared claimed after k entry
    → HasClaimed shared n k claimed → HasShare shared n after
HasClaimed-handled shared claimed after n k entry handles has = record {
  may_claim = handles.may_claim;
  share_is = ap (λ crew. length crew) handles.crew ∙ share-turned claimed.view.crew ∙ has.share_is;
}
