-- What steps leave of a pass that show some words anew, one after another.
use Rattle.tree_rewire.proofs.Words.{◌≡◌, ℕ, ◌+◌, refl, sym, ap, ◌∙◌, subst, arith, inl, inr, Err, IfErr, IfOk, Ok, Result, unwrap_or, Point, cost_of}
use Rattle.tree_rewire.proofs.Words.{IsPresent, point_of, Word, WritesWord, Best, PointOf, TreeOf, cost_in}
use Rattle.tree_rewire.proofs.Words.{OnlyPosts, BelongsTo, GoesOn, PassState, SharedState, with_view, HasLooked-loaded, HasLooked-refl, KeepsOrPosts-trans}
use Rattle.tree_rewire.proofs.Words.{BelongsTo-later, GoesOn-refl, GoesOn-trans, HasLooked, HasLooked-trans, IsLawfulView, last_look, loaded, saw, sees}
use Rattle.tree_rewire.proofs.Words.{tree_seen, point_at-kept, View, NamesLowered, NamesLoweredOrPoint, NamesNothing, NamesPoint, NamesTree, PassLowers}
use Rattle.tree_rewire.proofs.Words.{PassSees, SeesAnew, seen_cost_through}
use Rattle.tree_rewire.proofs.SeenCosts.{load_shows_none}

-- ---- views

pub SeesAnew-refl : (which : Word → Type 0) (view : View) → IsLawfulView view → SeesAnew which view view
SeesAnew-refl which view lawful = record {
  goes_on = GoesOn-refl view lawful;
  others = λ name off. refl;
  looked = HasLooked-refl view;
  kept = record { crew = refl; most = refl; hand = inl refl };
  held = λ off. refl;
}

pub SeesAnew-trans : {which : Word → Type 0} {before mid after : View} → SeesAnew which before mid → SeesAnew which mid after
    → SeesAnew which before after
SeesAnew-trans {which} {before} {mid} {after} one other = record {
  goes_on = GoesOn-trans before mid after one.goes_on other.goes_on;
  others = λ name off. other.others name off ∙ one.others name off;
  looked = HasLooked-trans before mid after one.goes_on.later other.goes_on.later one.looked other.looked;
  kept = KeepsOrPosts-trans before mid after one.kept other.kept;
  held = λ off. other.held off ∙ one.held off;
}

pub SeesAnew-more : {few more : Word → Type 0} {before after : View} → ((name : Word) → few name → more name) → SeesAnew few before after
    → SeesAnew more before after
SeesAnew-more within one = record {
  goes_on = one.goes_on;
  others = λ name off. one.others name (λ h. off (within name h));
  looked = one.looked;
  kept = one.kept;
  held = λ off. one.held (λ h. off (within Best h));
}

-- ---- passes

pub PassSees-refl : (which : Word → Type 0) (shared : SharedState) (pass : PassState) → BelongsTo pass shared → PassSees which shared pass pass
PassSees-refl which shared pass belongs =
    record { belongs = belongs; sees_anew = SeesAnew-refl which pass.view belongs.lawful; view_alone = refl }

pub PassSees-trans : {which : Word → Type 0} {shared : SharedState} {before mid after : PassState} → PassSees which shared before mid
    → PassSees which shared mid after → PassSees which shared before after
PassSees-trans {which} {shared} {before} {mid} {after} one other = record {
  belongs = other.belongs;
  sees_anew = SeesAnew-trans one.sees_anew other.sees_anew;
  view_alone = other.view_alone ∙ ap (λ p. with_view p after.view) one.view_alone;
}

pub PassSees-more : {few more : Word → Type 0} {shared : SharedState} {before after : PassState} → ((name : Word) → few name → more name)
    → PassSees few shared before after → PassSees more shared before after
PassSees-more within one = record {
  belongs = one.belongs;
  sees_anew = SeesAnew-more within one.sees_anew;
  view_alone = one.view_alone;
}

-- one step on a word
pub PassSees-saw : (which : Word → Type 0) (shared : SharedState) (before after : PassState) (name : Word) (found left : ℕ)
    → BelongsTo before shared → after ≡ with_view before (saw before.view name found left) → GoesOn before.view after.view
    → HasLooked before.view after.view → ((other : Word) → ¬ which other → sees after.view other ≡ sees before.view other) → PassSees which shared before after
PassSees-saw which shared before after name found left belongs is goes_on looked others =
    let view_is : after.view ≡ saw before.view name found left = ap (λ (p : PassState). p.view) is in
    record {
      belongs = BelongsTo-later shared before after (ap (λ (p : PassState). p.table) is) goes_on belongs;
      sees_anew = record {
        goes_on = goes_on;
        others = others;
        looked = looked;
        kept = record {
          crew = ap (λ (v : View). v.crew) view_is;
          most = ap (λ (v : View). v.most) view_is;
          hand = inl (ap (λ (v : View). v.hand) view_is);
        };
        held = λ off. ap (λ (v : View). v.hand) view_is;
      };
      view_alone = is ∙ ap (with_view before) (sym view_is);
    }

-- the tree word of a node is loaded
pub PassSees-tree : (shared : SharedState) (before after : PassState) (n word value : ℕ) → BelongsTo before shared
    → after ≡ with_view before (loaded before.view (TreeOf n) word) → GoesOn before.view after.view
    → WritesWord (TreeOf n) value (sees before.view) (sees after.view)
    → WritesWord (TreeOf n) (before.view.steps + 1) (last_look before.view) (last_look after.view) → PassSees NamesTree shared before after
PassSees-tree shared before after n word value belongs is goes_on writes looked =
    PassSees-saw NamesTree shared before after (TreeOf n) word word belongs is goes_on
    (HasLooked-loaded before.view after.view (TreeOf n) value writes looked (ap (λ (p : PassState). p.view.best) is))
    (λ other off. writes.others other (λ same. off (subst NamesTree (sym same) tt)))

-- the point of a node that is seen with it is loaded again
pub PassSees-point : (shared : SharedState) (before after : PassState) (n word value : ℕ) → BelongsTo before shared
    → IsPresent (tree_seen before.view).points n → after ≡ with_view before (loaded before.view (PointOf n) word) → GoesOn before.view after.view
    → WritesWord (PointOf n) value (sees before.view) (sees after.view)
    → WritesWord (PointOf n) (before.view.steps + 1) (last_look before.view) (last_look after.view) → PassSees NamesNothing shared before after
PassSees-point shared before after n word value belongs present is goes_on writes looked =
    PassSees-saw NamesNothing shared before after (PointOf n) word word belongs is goes_on
    (HasLooked-loaded before.view after.view (PointOf n) value writes looked (ap (λ (p : PassState). p.view.best) is))
    (λ other off. load_shows_none before.view after.view goes_on n value present writes other)

-- the point of any seen node is loaded
pub PassSees-any_point : (shared : SharedState) (before after : PassState) (n word value : ℕ) → BelongsTo before shared
    → after ≡ with_view before (loaded before.view (PointOf n) word) → GoesOn before.view after.view
    → WritesWord (PointOf n) value (sees before.view) (sees after.view)
    → WritesWord (PointOf n) (before.view.steps + 1) (last_look before.view) (last_look after.view) → PassSees NamesPoint shared before after
PassSees-any_point shared before after n word value belongs is goes_on writes looked =
    PassSees-saw NamesPoint shared before after (PointOf n) word word belongs is goes_on
    (HasLooked-loaded before.view after.view (PointOf n) value writes looked (ap (λ (p : PassState). p.view.best) is))
    (λ other off. writes.others other (λ same. off (subst NamesPoint (sym same) tt)))

-- the cost of a node is lowered, or another word was found
pub PassSees-lower : (shared : SharedState) (before after : PassState) (n word value : ℕ) (result : Result Unit (ℕ × ℕ)) → BelongsTo before shared
    → IfOk result (λ done. OnlyPosts n before after) → IfErr result (λ pair. after ≡ with_view before (loaded before.view (TreeOf n) word))
    → GoesOn before.view after.view → WritesWord (TreeOf n) value (sees before.view) (sees after.view) → HasLooked before.view after.view
    → PassSees NamesLowered shared before after
PassSees-lower shared before after n word value (Ok done) belongs posts found goes_on writes looked = record {
  belongs = BelongsTo-later shared before after (ap (λ (p : PassState). p.table) posts.pass) goes_on belongs;
  sees_anew = record {
    goes_on = goes_on;
    others = λ other off. writes.others other (λ same. off (subst NamesLowered (sym same) tt));
    looked = looked;
    kept = record {
      crew = posts.crew;
      most = posts.most;
      hand = elim posts.hand [
        | inl same ↦ inl same
        | inr (goal, noted) ↦ inr (n, noted)
      ];
    };
    held = λ off. absurd (off tt);
  };
  view_alone = posts.pass;
}
PassSees-lower shared before after n word value (Err pair) belongs posts found goes_on writes looked =
    PassSees-saw NamesLowered shared before after (TreeOf n) word word belongs found goes_on looked
    (λ other off. writes.others other (λ same. off (subst NamesLowered (sym same) tt)))

-- words of one kind are of another
pub Lowered-tree : (name : Word) → NamesTree name → NamesLowered name
Lowered-tree (TreeOf n) h = h
Lowered-tree _ h = absurd h

pub LoweredOrPoint-lowered : (name : Word) → NamesLowered name → NamesLoweredOrPoint name
LoweredOrPoint-lowered Best h = h
LoweredOrPoint-lowered (TreeOf n) h = h
LoweredOrPoint-lowered _ h = absurd h

pub LoweredOrPoint-point : (name : Word) → NamesPoint name → NamesLoweredOrPoint name
LoweredOrPoint-point (PointOf n) h = h
LoweredOrPoint-point _ h = absurd h

-- ---- passes that lower costs

pub PassLowers-sees : {shared : SharedState} {before after : PassState} → PassSees NamesLoweredOrPoint shared before after → PassLowers shared before after
PassLowers-sees one = record {
  belongs = one.belongs;
  sees_anew = one.sees_anew;
  near = ap (λ p. p.lists.near) one.view_alone;
  around = ap (λ p. p.lists.around) one.view_alone;
  search = ap (λ p. p.lists.search) one.view_alone;
}

pub PassLowers-trans : {shared : SharedState} {before mid after : PassState} → PassLowers shared before mid → PassLowers shared mid after
    → PassLowers shared before after
PassLowers-trans one other = record {
  belongs = other.belongs;
  sees_anew = SeesAnew-trans one.sees_anew other.sees_anew;
  near = other.near ∙ one.near;
  around = other.around ∙ one.around;
  search = other.search ∙ one.search;
}

-- nothing but the list of those that wait changes
pub PassLowers-lists : (shared : SharedState) (before after : PassState) → BelongsTo before shared → after.table ≡ before.table
    → after.view ≡ before.view → after.lists.near ≡ before.lists.near → after.lists.around ≡ before.lists.around → after.lists.search ≡ before.lists.search
    → PassLowers shared before after
PassLowers-lists shared before after belongs table view near around search =
    let sees_anew = subst (SeesAnew NamesLoweredOrPoint before.view) (sym view) (SeesAnew-refl NamesLoweredOrPoint before.view belongs.lawful) in
    record {
      belongs = BelongsTo-later shared before after table sees_anew.goes_on belongs;
      sees_anew = sees_anew;
      near = near;
      around = around;
      search = search;
    }

-- ---- if no word is seen anew, costs and points are the same

module _ {before after : View} (same : SeesAnew NamesNothing before after) where
  pub point_of-same : (n : ℕ) → point_of (tree_seen after).points n ≡ point_of (tree_seen before).points n
  point_of-same n =
      ap (λ o. unwrap_or o (record { x = 0; y = 0 })) (point_at-kept before after n same.goes_on.later (same.others (PointOf n) (λ no. no)))

  pub seen_cost_through-same : (p : Point) (n : ℕ) → seen_cost_through after p n ≡ seen_cost_through before p n
  seen_cost_through-same p n =
      omega (
        arith,
        ap cost_in (same.others (TreeOf n) (λ no. no)),
        ap (λ q. cost_of q p) (point_of-same n),
      )
