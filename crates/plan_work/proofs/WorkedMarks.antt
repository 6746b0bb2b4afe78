-- A worker has handled one mark more.
use Rattle.plan_work.proofs.Words.{◌≡◌, ◌≢◌, ℕ, ◌+◌, ◌-◌, ◌<◌, ◌≤◌, List, length, inl, inr, refl, sym, ap, ◌∙◌, subst, arith, ◌⊎◌, [], ◌∷◌, max, cases_eq}
use Rattle.plan_work.proofs.Words.{cases_lt, Record, ChangesOnly, IsCounter, RecordOf, AllLoaded, IsClaimed, GoesOn, PassState, SharedState, turn_of, worker_of}
use Rattle.plan_work.proofs.Words.{GoesOn-more, GoesOn-trans, HasGoneOn, HasMember-held, new_hand, one_turn_more, sees, Member, View, HandlesMark, IsExtended}
use Rattle.plan_work.proofs.Words.{AllExtended, HasWorked}
use lib.ListN.{get_elem?}

-- a turn more changes neither the share nor the worker
pub share-turned : (crew : List Member) → length (one_turn_more crew) ≡ length crew
share-turned [] = refl
share-turned (member ∷ crew) = refl

worker-turned : (crew : List Member) → worker_of (one_turn_more crew) ≡ worker_of crew
worker-turned [] = refl
worker-turned (member ∷ crew) = refl

turn-turned : (crew : List Member) → 0 < length crew → turn_of (one_turn_more crew) ≡ turn_of crew + 1
turn-turned [] some = absurd (omega (arith, some))
turn-turned (member ∷ crew) some = refl

pub HasWorked-mark :
    (shared : SharedState) (before now claimed after : PassState) (limit k : ℕ) (entry : Record) → HasWorked shared before now limit
    → IsClaimed now.view claimed.view limit k → HandlesMark shared claimed after k entry → HasWorked shared before after limit
HasWorked-mark shared before now claimed after limit k entry worked claims handles = record {
  may_claim = handles.may_claim;
  same_share = ap length (handles.crew ∙ ap one_turn_more claims.crew) ∙ share-turned now.view.crew ∙ worked.same_share;
  worker = ap worker_of (handles.crew ∙ ap one_turn_more claims.crew) ∙ worker-turned now.view.crew ∙ worked.worker;
  most = limits worked.most (cases_lt now.view.most limit);
}
  where
    is : after.view.most ≡ max now.view.most limit
    is = handles.most ∙ claims.most

    limits : (now.view.most ≡ before.view.most) ⊎ (now.view.most ≡ limit) → (now.view.most < limit) ⊎ (limit ≤ now.view.most)
        → (after.view.most ≡ before.view.most) ⊎ (after.view.most ≡ limit)
    limits was (inl less) = inr (omega (arith, is, less))
    limits (inl same) (inr more) = inl (omega (arith, is, more, same))
    limits (inr same) (inr more) = inr (omega (arith, is, more, same))

-- and fewer turns are left
pub fewer_turns :
    (shared : SharedState) (now claimed after : PassState) (limit k : ℕ) (entry : Record) → GoesOn now.view claimed.view
    → IsClaimed now.view claimed.view limit k → HandlesMark shared claimed after k entry
    → length claimed.view.run.marks - turn_of after.view.crew < length claimed.view.run.marks - turn_of now.view.crew
fewer_turns shared now claimed after limit k entry goes_on claims handles =
    let lawful = goes_on.lawful in
    let has = HasMember-held claimed.view (new_hand k) lawful claims.hand in
    let low = lawful.turn (new_hand k) 0 has.member claims.hand (ap (λ l. get_elem? l 0) has.crew_is) in
    let turn = ap turn_of has.crew_is in
    let some : 0 < length claimed.view.crew = subst (λ l. 0 < length l) (sym has.crew_is) (omega arith) in
    let more = ap turn_of handles.crew ∙ turn-turned claimed.view.crew some in
    omega (arith, low, turn, more, ap turn_of claims.crew)

-- What was loaded after some steps was loaded after fewer.
pub AllLoaded-earlier : (before now after : View) → HasGoneOn before now → AllLoaded after now.steps → AllLoaded after before.steps
AllLoaded-earlier before now after (inl same) loaded = subst (λ v. AllLoaded after v.steps) same loaded
AllLoaded-earlier before now after (inr goes_on) loaded = λ g below. omega (arith, goes_on.later.steps, loaded g below)

-- ---- what was promised of each mark

-- Each mark recorded so far was handled as promised; the last of them perhaps just now.
pub record WasExtendedSo (before now : View) (k : ℕ) : Type 0 where
  pub entry : Record
  pub begun : View
  pub ended : View
  pub since : GoesOn before begun
  pub until : HasGoneOn ended now
  pub extended : IsExtended begun ended k entry
  pub kept : sees now (RecordOf k) ≡ sees ended (RecordOf k)

abbrev pub AllExtendedSo : View → View → Type 0
AllExtendedSo before now = (k : ℕ) → sees before (RecordOf k) ≡ 0 → sees now (RecordOf k) ≢ 0 → WasExtendedSo before now k

-- One more was claimed and handled.
pub AllExtendedSo-mark :
    (shared : SharedState) (before now claimed after : PassState) (k : ℕ) (entry : Record) → HasGoneOn before.view now.view
    → GoesOn now.view claimed.view → ChangesOnly IsCounter (sees now.view) (sees claimed.view) → HandlesMark shared claimed after k entry
    → IsExtended claimed.view after.view k entry → AllExtendedSo before.view now.view → AllExtendedSo before.view after.view
AllExtendedSo-mark shared before now claimed after k entry gone_on goes_on counters handles extended so j none some =
    elim (cases_eq j k) [
      | inl is ↦ record {
        entry = entry;
        begun = claimed.view;
        ended = after.view;
        since = GoesOn-more before.view now.view claimed.view gone_on goes_on;
        until = inl refl;
        extended = subst (λ i. IsExtended claimed.view after.view i entry) (sym is) extended;
        kept = refl;
      }
      | inr apart ↦ (
          let kept : sees after.view (RecordOf j) ≡ sees now.view (RecordOf j) = handles.others j apart ∙ counters (RecordOf j) (λ no. no) in
          let was = so j none (λ e. some (kept ∙ e)) in
          record {
            entry = was.entry;
            begun = was.begun;
            ended = was.ended;
            since = was.since;
            until =
                inr (GoesOn-more was.ended now.view after.view was.until
                (GoesOn-trans now.view claimed.view after.view goes_on handles.goes_on));
            extended = was.extended;
            kept = kept ∙ was.kept;
          })
    ]

-- At last no mark was left.
pub AllExtended-last : (before now after : View) → GoesOn now after → ChangesOnly IsCounter (sees now) (sees after) → AllExtendedSo before now
    → AllExtended before after
AllExtended-last before now after goes_on counters so k none some =
    let kept : sees after (RecordOf k) ≡ sees now (RecordOf k) = counters (RecordOf k) (λ no. no) in
    let was = so k none (λ e. some (kept ∙ e)) in
    record {
      entry = was.entry;
      begun = was.begun;
      ended = was.ended;
      since = was.since;
      until = GoesOn-more was.ended now after was.until goes_on;
      extended = was.extended;
      kept = kept ∙ was.kept;
    }
