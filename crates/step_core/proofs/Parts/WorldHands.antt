-- The part of the law of worlds on the points of nodes in hand, after each kind of step.
use Rattle.step_core.proofs.Words.{◌≡◌, ◌≢◌, ◌∙◌, ℕ, suc, true, List, Some, None, sym, ap, subst, same_Some, Words, WritesWord, PointOf, point_word, has_point}
use Rattle.step_core.proofs.Words.{holds_at, EachView, Hands, hands_at, is_recorded, Hand, View}
use Rattle.step_core.proofs.Parts.HandsAt.{IsBlank-hand, IsBlank-recorded, IsBlank-step, alone-held, holds_at-stays}
use Rattle.step_core.proofs.Parts.Shifts.{IsShift, Shift, each-later, later_views}

-- the hand's point is written, if it has come so far
abbrev pub IsWrittenFor : Words → View → Type 0
IsWrittenFor words view = (hand : Hand) → view.hand ≡ Some hand → has_point hand.stage ≡ true → words (PointOf (suc hand.mark)) ≡ point_word hand.point

-- views in whose hands as many points are written
pub Hands-views :
    (words : Words) (views later : List View) → Hands words views → EachView later (IsWrittenFor words)
    → ((k : ℕ) → hands_at has_point k later ≡ hands_at has_point k views) → Hands words later
Hands-views words views later hands written same = record {
  written = written;
  blank = λ k no_record no_hand. hands.blank k no_record (sym (same k) ∙ no_hand);
}

module _ {s : Shift} (is : IsShift s) where
  -- Of a step that leaves all points and all records it is asked that the hand has not come on to a point.
  pub Hands-step :
      ((n : ℕ) → s.after (PointOf n) ≡ s.now.words (PointOf n)) → ((k : ℕ) → is_recorded s.after k ≡ is_recorded s.now.words k)
      → IsWrittenFor s.now.words s.then → ((k : ℕ) → holds_at has_point k s.then.hand ≡ holds_at has_point k s.now.view.hand) → Hands s.after (later_views s)
  Hands-step points recorded own same = record {
    written = each-later is (IsWrittenFor s.after) (λ i u apart e hand held far. points (suc hand.mark) ∙ is.moment.world.hands.written i u e hand held far)
        (λ hand held far. points (suc hand.mark) ∙ own hand held far);
    blank = IsBlank-step is has_point (λ k. PointOf (suc k)) is.moment.world.hands.blank (λ k none no_hand. points (suc k)) recorded same;
  }

  -- the hand has come on with its point as it was
  pub Hands-on :
      {hand next : Hand} → s.now.view.hand ≡ Some hand → s.then.hand ≡ Some next → next.mark ≡ hand.mark → next.point ≡ hand.point
      → has_point hand.stage ≡ true → has_point next.stage ≡ true → ((n : ℕ) → s.after (PointOf n) ≡ s.now.words (PointOf n))
      → ((k : ℕ) → is_recorded s.after k ≡ is_recorded s.now.words k) → Hands s.after (later_views s)
  Hands-on {hand} {next} held now same point far far_then points recorded =
      Hands-step points recorded
      (λ other e on. subst (λ h. s.now.words (PointOf (suc h.mark)) ≡ point_word h.point) (same_Some next other (sym now ∙ e))
      (ap (λ k. s.now.words (PointOf (suc k))) same ∙ is.moment.world.hands.written s.now.id s.now.view is.moment.at hand held far
      ∙ ap point_word (sym point)))
      (λ k. ap (holds_at has_point k) now ∙ holds_at-stays has_point s.now.view.hand hand next held same (far_then ∙ sym far) k)

  -- a record of the mark in hand
  pub Hands-recorded :
      (hand : Hand) → s.now.view.hand ≡ Some hand → s.then.hand ≡ None → ((n : ℕ) → s.after (PointOf n) ≡ s.now.words (PointOf n))
      → is_recorded s.after hand.mark ≡ true
      → ((k : ℕ) → k ≢ hand.mark → is_recorded s.after k ≡ is_recorded s.now.words k) → Hands s.after (later_views s)
  Hands-recorded hand held idle points now recorded = record {
    written = each-later is (IsWrittenFor s.after) (λ i u apart e own has far. points (suc own.mark) ∙ is.moment.world.hands.written i u e own has far)
        (λ own has far. let none = sym idle ∙ has in cc);
    blank = IsBlank-recorded is has_point (λ k. PointOf (suc k)) is.moment.world.hands.blank hand held idle (λ k none no_hand. points (suc k))
        now recorded;
  }

  -- the point of the node in hand
  pub Hands-pointed :
      (hand : Hand) → s.now.view.hand ≡ Some hand → (next : Hand) → s.then.hand ≡ Some next → next.mark ≡ hand.mark → has_point next.stage ≡ true
      → WritesWord (PointOf (suc hand.mark)) (point_word next.point) s.now.words s.after → ((k : ℕ) → is_recorded s.after k ≡ is_recorded s.now.words k)
      → Hands s.after (later_views s)
  Hands-pointed hand held next now same_mark far writes recorded = record {
    written = each-later is (IsWrittenFor s.after) (λ i u apart e own has far.
        writes.others (PointOf (suc own.mark)) (λ same. alone-held is.moment held i u own apart e has cc)
        ∙ is.moment.world.hands.written i u e own has far) (λ own has far.
        let same : next ≡ own = same_Some next own (sym now ∙ has) in
        subst (λ h. s.after (PointOf (suc h.mark)) ≡ point_word h.point) same (ap (λ k. s.after (PointOf (suc k))) same_mark ∙ writes.here));
    blank = IsBlank-hand is has_point (λ k. PointOf (suc k)) is.moment.world.hands.blank hand held next now same_mark
        (λ k apart. writes.others (PointOf (suc k)) (λ e. apart cc)) recorded (λ early. let no = sym far ∙ early in cc);
  }
