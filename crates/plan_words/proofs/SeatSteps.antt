-- Steps by the seat of a pass on points, parents and costs.
use Rattle.plan_words.proofs.Words.{◌≡◌, ◌≢◌, ◌⊎◌, ℕ, suc, ◌+◌, Bool, true, false, List, [], ◌∷◌, Option, Some, None, length, refl, sym, ap, ◌∙◌, subst, inl}
use Rattle.plan_words.proofs.Words.{inr, arith, ◌==◌, cond, eqb-true, TableId, Me, IsOrPosted, KeepsOrPosts, SeesBestSince, IsOtherWord, LooksOn}
use Rattle.plan_words.proofs.Words.{SeesSamePoints, SitsAt, Tells, exchanged_at, GoesOn, HasPairs, HasRoom, HasWholeShare, PassState, SharedState, first_member}
use Rattle.plan_words.proofs.Words.{with_view, Aim, HasLooked, HasLooked-trans, IsLawfulView, hand_with_post, last_look, last_note, last_seen, last_seen-table}
use Rattle.plan_words.proofs.Words.{loaded, noting, place_in, post_noted, run_sizes, same_name, saw, saw_at, sees, with_post, WritesWord-looked, WritesWord-saw}
use Rattle.plan_words.proofs.Words.{last_seen-same, Word, WritesWord, Best, PointOf, HasWord, Hand, Member, Note, SharedRun, Stage, Claimed, Counted, Half}
use Rattle.plan_words.proofs.Words.{Linked, Pointed, Posted, Treed, View}
use Rattle.plan_words.proofs.GoingOn.{GoesOn-refl, GoesOn-trans}
use Rattle.plan_words.proofs.KeptPairs.{Keeps}

-- ---- what is looked at

-- by a step that looks at one word all others are seen as before
pub HasLooked-one : (before after : View) (name : Word) → last_look after name ≡ before.steps + 1
    → ((other : Word) → other ≢ name → last_seen after other ≡ last_seen before other) → HasLooked before after
HasLooked-one before after name look others other =
    elim (same_name other name) [
      | inl e ↦ inr (omega (arith, ap (last_look after) e, look))
      | inr apart ↦ inl (others other apart)
    ]

pub HasLooked-refl : (view : View) → HasLooked view view
HasLooked-refl view name = inl refl

-- ---- one step on a word, of which it may leave a note

abbrev pub with_notes : View → List Note → View
with_notes view notes = record view { notes = notes }

-- an exchange sees the word as it was left, and notes that if it is another
pub exchanged_noted : (view : View) (place first second found : ℕ) (steps : List ℕ)
    → exchanged_at view place first second found steps
    ≡ with_notes (saw_at view place found (cond (found == first) second found))
    (cond (found == first) (record { place = place; word = second; steps = steps } ∷ view.notes) view.notes)
exchanged_noted view place first second found steps = by_test (found == first) refl
  where
    by_test : (b : Bool) → (found == first) ≡ b
        → cond b (noting (saw_at view place first second) place second steps) (saw_at view place found found)
        ≡ with_notes (saw_at view place found (cond b second found)) (cond b (record { place = place; word = second; steps = steps } ∷ view.notes) view.notes)
    by_test true e = ap (λ f. noting (saw_at view place f second) place second steps) (sym (eqb-true found first e))
    by_test false e = refl

module _ (me after : Me Aim View) (name : Word) (place found x : ℕ) (notes : List Note) (lawful : IsLawfulView me.0)
    (here : HasWord (run_sizes me.0.run) name) (at_place : place ≡ place_in me.0 name)
    (told : Tells me (with_notes (saw_at me.0 place found x) notes) after) where
  then_is : after.0 ≡ with_notes (saw me.0 name found x) notes
  then_is = told.view_is ∙ ap (λ i. with_notes (saw_at me.0 i found x) notes) at_place

  pub writes_told : WritesWord name x (sees me.0) (sees after.0)
  writes_told = subst (λ v. WritesWord name x (sees me.0) (sees v)) (sym then_is) (WritesWord-saw me.0.run me.0 lawful.of_run name here found x)

  pub looked_told : WritesWord name (me.0.steps + 1) (last_look me.0) (last_look after.0)
  looked_told =
      subst (λ v. WritesWord name (me.0.steps + 1) (last_look me.0) (last_look v)) (sym then_is)
      (WritesWord-looked me.0.run me.0 lawful.of_run name here found x)

  pub goes_told : GoesOn me.0 after.0
  goes_told = subst (GoesOn me.0) (sym told.view_is) told.goes_on

  pub LooksOn-told : ((other : Word) → IsOtherWord other → other ≢ name) → LooksOn me.0 after.0
  LooksOn-told apart = record {
    goes_on = goes_told;
    others = λ other off. writes_told.others other (apart other off);
    looked = HasLooked-one me.0 after.0 name looked_told.here (λ other off.
        last_seen-same me.0 after.0 other (writes_told.others other off) (ap (λ v. v.best) told.view_is));
    kept = record {
      crew = ap (λ v. v.crew) told.view_is;
      most = ap (λ v. v.most) told.view_is;
      hand = inl (ap (λ v. v.hand) told.view_is);
    };
  }

  pub SitsAt-told : (shared : SharedState) (table then : TableId) → then ≡ table → SitsAt shared table me → SitsAt shared then after
  SitsAt-told shared table then same sits = record {
    table_is = same ∙ sits.table_is;
    run = ap (λ v. v.run) told.view_is ∙ sits.run;
    lawful = goes_told.lawful;
    slots = told.slots ∙ sits.slots;
  }

-- ---- posts of goal nodes

noted-cases : (stage : Stage) (hand : Hand) (n : ℕ) → (post_noted stage hand n ≡ hand) ⊎ ((post_noted stage hand n).stage ≡ Posted)
noted-cases Claimed hand n = inl refl
noted-cases Pointed hand n = inl refl
noted-cases Half hand n = inl refl
noted-cases Treed hand n = inl refl
noted-cases Linked hand n = inl refl
noted-cases Posted hand n = inl refl
noted-cases Counted hand n = by_test (suc hand.mark == n)
  where
    by_test : (b : Bool) → (cond b (record hand { stage = Posted }) hand ≡ hand) ⊎ ((cond b (record hand { stage = Posted }) hand).stage ≡ Posted)
    by_test true = inr refl
    by_test false = inl refl

-- of two posts the second leaves what the first does, or what it would leave alone
posted-twice : (held : Option Hand) (n m : ℕ) → IsOrPosted held (hand_with_post (hand_with_post held n) m)
posted-twice None n m = inl refl
posted-twice (Some hand) n m = elim (noted-cases hand.stage hand n) [
  | inl same ↦ inr (m, ap (λ h. hand_with_post (Some h) m) same)
  | inr far ↦ inr (n, ap (λ s. Some (post_noted s (post_noted hand.stage hand n) m)) far)
]

pub IsOrPosted-trans : (first mid last : Option Hand) → IsOrPosted first mid → IsOrPosted mid last → IsOrPosted first last
IsOrPosted-trans first mid last (inl same) then = subst (λ o. IsOrPosted o last) same then
IsOrPosted-trans first mid last (inr (n, posts)) (inl same) = inr (n, same ∙ posts)
IsOrPosted-trans first mid last (inr (n, posts)) (inr (m, again)) =
    subst (IsOrPosted first) (sym (again ∙ ap (λ o. hand_with_post o m) posts)) (posted-twice first n m)

pub KeepsOrPosts-trans : (before mid after : View) → KeepsOrPosts before mid → KeepsOrPosts mid after → KeepsOrPosts before after
KeepsOrPosts-trans before mid after one other = record {
  crew = other.crew ∙ one.crew;
  most = other.most ∙ one.most;
  hand = IsOrPosted-trans before.hand mid.hand after.hand one.hand other.hand;
}

-- a view that has posted node n
module _ (view then : View) (n : ℕ) (is : then ≡ with_post view n then.best (last_note then)) where
  pub sees-posted : sees then ≡ sees view
  sees-posted = ap sees is

  pub HasLooked-posted : WritesWord Best (view.steps + 1) (last_look view) (last_look then) → HasLooked view then
  HasLooked-posted looked =
      HasLooked-one view then Best looked.here (λ name off.
      last_seen-table then name off ∙ ap (λ w. w name) sees-posted ∙ sym (last_seen-table view name off))

  pub LooksOn-posted : GoesOn view then → WritesWord Best (view.steps + 1) (last_look view) (last_look then) → LooksOn view then
  LooksOn-posted goes_on looked = record {
    goes_on = goes_on;
    others = λ name off. ap (λ w. w name) sees-posted;
    looked = HasLooked-posted looked;
    kept = record { crew = ap (λ v. v.crew) is; most = ap (λ v. v.most) is; hand = inr (n, ap (λ v. v.hand) is) };
  }

-- ---- steps one after another

pub LooksOn-refl : (view : View) → IsLawfulView view → LooksOn view view
LooksOn-refl view lawful = record {
  goes_on = GoesOn-refl view lawful;
  others = λ name off. refl;
  looked = HasLooked-refl view;
  kept = record { crew = refl; most = refl; hand = inl refl };
}

pub LooksOn-trans : (before mid after : View) → LooksOn before mid → LooksOn mid after → LooksOn before after
LooksOn-trans before mid after one other = record {
  goes_on = GoesOn-trans before mid after one.goes_on other.goes_on;
  others = λ name off. other.others name off ∙ one.others name off;
  looked = HasLooked-trans before mid after one.goes_on.later other.goes_on.later one.looked other.looked;
  kept = KeepsOrPosts-trans before mid after one.kept other.kept;
}

-- one point was, and is seen as before
pub points_kept : (before after : View) (n value : ℕ) → WritesWord (PointOf n) value (sees before) (sees after)
    → sees after (PointOf n) ≡ sees before (PointOf n) → SeesSamePoints before after
points_kept before after n value writes same m =
    elim (same_name (PointOf m) (PointOf n)) [
      | inl e ↦ ap (sees after) e ∙ same ∙ ap (sees before) (sym e)
      | inr apart ↦ writes.others (PointOf m) apart
    ]

-- the best word was looked at by one of two, or is seen as before
pub SeesBestSince-trans : (before mid after : View) → GoesOn before mid → GoesOn mid after → SeesBestSince before mid → SeesBestSince mid after
    → SeesBestSince before after
SeesBestSince-trans before mid after one other by_first by_then =
    elim by_then [
      | inr since ↦ inr (omega (arith, since, one.later.steps))
      | inl same ↦ elim by_first [
        | inl was ↦ inl (same ∙ was)
        | inr since ↦ elim (other.later.looked Best) [
          | inl kept ↦ inr (omega (arith, kept, since))
          | inr anew ↦ inr (omega (arith, anew, one.later.steps))
        ]
      ]
    ]

-- a whole share stays whole
pub whole_later : (before after : View) → LooksOn before after → HasWholeShare before → HasWholeShare after
whole_later before after looks all =
    ap length looks.kept.crew ∙ all ∙ sym (ap (λ (r : SharedRun). r.workers) looks.goes_on.later.run)

-- a word was loaded by the pass
pub HasLooked-loaded : (before after : View) (name : Word) (value : ℕ) → WritesWord name value (sees before) (sees after)
    → WritesWord name (before.steps + 1) (last_look before) (last_look after) → after.best ≡ before.best → HasLooked before after
HasLooked-loaded before after name value writes looked best =
    HasLooked-one before after name looked.here (λ other off. last_seen-same before after other (writes.others other off) best)

-- the point of a node was
pub LooksOn-loaded : (before after : PassState) (n word value : ℕ) → after ≡ with_view before (loaded before.view (PointOf n) word)
    → GoesOn before.view after.view → WritesWord (PointOf n) value (sees before.view) (sees after.view)
    → WritesWord (PointOf n) (before.view.steps + 1) (last_look before.view) (last_look after.view) → LooksOn before.view after.view
LooksOn-loaded before after n word value is goes_on writes looked = record {
  goes_on = goes_on;
  others = λ name off. writes.others name (off n).1;
  looked = HasLooked-loaded before.view after.view (PointOf n) value writes looked (ap (λ (p : PassState). p.view.best) is);
  kept = record {
    crew = ap (λ (p : PassState). p.view.crew) is;
    most = ap (λ (p : PassState). p.view.most) is;
    hand = inl (ap (λ (p : PassState). p.view.hand) is);
  };
}

-- the pass keeps its member, and its hand and its list of tree words as they are in the view then
pub Keeps-looked : (me after : Me Aim View) (member : Option Member) (hand next : Option Hand) (for_spots for_near for_around for_waiting waits : ℕ)
    (pairs now : List ℕ) → Keeps me member hand for_spots for_near for_around for_waiting pairs → GoesOn me.0 after.0 → after.0.crew ≡ me.0.crew → after.1 ≡ []
    → next ≡ after.0.hand → waits ≡ for_waiting → HasPairs after.0 now → Keeps after member next for_spots for_near for_around waits now
Keeps-looked me after member hand next for_spots for_near for_around for_waiting waits pairs now (none, tied, room, has) goes_on crew slots held same seen = (
  slots,
  record {
    member_is = tied.member_is ∙ ap first_member (sym crew);
    hand_is = held;
    lawful = goes_on.lawful;
  },
  subst (λ r. HasRoom r for_spots for_near for_around waits) (sym goes_on.later.run)
      (subst (λ w. HasRoom me.0.run for_spots for_near for_around w) (sym same) room),
  seen,
)
