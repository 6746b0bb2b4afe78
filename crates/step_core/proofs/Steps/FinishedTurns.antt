-- The first of a crew records its mark: it has one turn more, and no other worker has.
use Rattle.step_core.proofs.Words.{◌≡◌, ◌≢◌, ◌+◌, ◌<◌, ◌≤◌, ◌^◌, ◌∷◌, ◌∙◌, ◌==◌, ℕ, zero, suc, true, List, length, set, Some, None, refl, sym, ap, subst, inl}
use Rattle.step_core.proofs.Words.{inr, arith, nat_lt, cond, some, some-injective, get_elem?, cases_eq, eq-eqb, eqb-true, le-ltb, sum_by-cons, is_of_worker}
use Rattle.step_core.proofs.Words.{once_if, turns_of, Record, RecordsMark, AreTurns-recorded, turns_of-recorded, turns_of-recorded_by_other, record_at, Words}
use Rattle.step_core.proofs.Words.{WritesWord, FirstOf, RecordOf, outcome_in, record_in, record_of_word, turn_in, worker_in, finished, one_turn_more, sees}
use Rattle.step_core.proofs.Words.{times, IsMember, Turns, Member, SharedRun, View}
use Rattle.step_core.proofs.Parts.MarksInHand.{once_if-most}
use Rattle.step_core.proofs.Parts.ViewLists.{each-set, sum-one, sum-set, sum-two}

-- ---- the record in a word

of_record : (number word first : ℕ)
    → ((record_in number word first).worker ≡ worker_in word) × ((record_in number word first).turn ≡ turn_in word)
of_record (suc (suc zero)) word first = (refl, refl)
of_record number word first = (refl, refl)

-- ---- crews

pub times-cons : (member : Member) (crew : List Member) (w : ℕ) → times w (member ∷ crew) ≡ once_if (member.worker == w) + times w crew
times-cons member crew w = sum_by-cons (λ m. cond (m.worker == w) 1 0) member crew

pub times-at : (crew : List Member) (i : ℕ) (member : Member) → get_elem? crew i ≡ some member → 1 ≤ times member.worker crew
times-at crew i member e =
    let own : once_if (member.worker == member.worker) ≡ 1 = ap once_if (eq-eqb member.worker member.worker refl) in
    omega (arith, sum-one (λ m. cond (m.worker == member.worker) 1 0) crew i member e, own)

-- ---- the turns

module _ (run : SharedRun) (before after : Words) (views : List View) (id : ℕ) (view : View) (member : Member) (crew : List Member) (k x : ℕ)
    (turns : Turns run before views) (at : get_elem? views id ≡ some view) (crew_is : view.crew ≡ member ∷ crew) (low : k < length run.marks)
    (absent : record_at before k ≡ None) (writes : WritesWord (RecordOf k) x before after) (written : 2 ^ 63 ≤ x)
    (worker : worker_in x ≡ member.worker) (turn : turn_in x ≡ member.turn) where
  abbrev entry : Record
  entry = record_in (outcome_in x) x (after (FirstOf (suc k)))

  abbrev then : View
  then = finished view k x

  entry_worker : entry.worker ≡ member.worker
  entry_worker = (of_record (outcome_in x) x (after (FirstOf (suc k)))).0 ∙ worker

  entry_turn : entry.turn ≡ member.turn
  entry_turn = (of_record (outcome_in x) x (after (FirstOf (suc k)))).1 ∙ turn

  pub recorded : record_at after k ≡ Some entry
  recorded = ap (λ w. record_of_word w (after (FirstOf (suc k)))) writes.here ∙ ap (λ b. cond b None (Some entry)) (le-ltb x (2 ^ 63) written)

  -- the mark had no record, and has this one
  pub change : RecordsMark (record_at before) (record_at after) k entry
  change = record {
    absent = absent;
    recorded = recorded;
    others = λ j apart.
        ap (λ w. record_of_word w (after (FirstOf (suc j)))) (writes.others (RecordOf j) (λ e. apart cc))
        ∙ ap (record_of_word (before (RecordOf j))) (writes.others (FirstOf (suc j)) (λ e. cc));
  }

  first : IsMember run before view member
  first = turns.members id view at 0 member (ap (λ l. get_elem? l 0) crew_is)

  own_turn : entry.turn ≡ turns_of (record_at before) (length run.marks) entry.worker
  own_turn = entry_turn ∙ first.turn ∙ ap (turns_of (record_at before) (length run.marks)) (sym entry_worker)

  -- ---- members

  -- a record of another worker is not the new one
  not_new : (w j : ℕ) → member.worker ≢ w → is_of_worker w (record_at after j) ≡ true → j ≢ k
  not_new w j apart of e = apart (sym entry_worker ∙ eqb-true entry.worker w (sym (ap (is_of_worker w) (ap (record_at after) e ∙ recorded)) ∙ of))

  other_turns : (w : ℕ) → member.worker ≢ w → turns_of (record_at after) (length run.marks) w ≡ turns_of (record_at before) (length run.marks) w
  other_turns w apart = turns_of-recorded_by_other (record_at before) (record_at after) k entry change (length run.marks) low w
      (λ e. apart (sym entry_worker ∙ e))

  -- a member of another worker, of a view that sees the other records as it did
  member_apart :
      (u v : View) (mate : Member) → member.worker ≢ mate.worker → ((j : ℕ) → j ≢ k → sees v (RecordOf j) ≡ sees u (RecordOf j))
      → IsMember run before u mate → IsMember run after v mate
  member_apart u v mate apart same own = record {
    turn = own.turn ∙ sym (other_turns mate.worker apart);
    own = λ j of. (
        let other = not_new mate.worker j apart of in
        same j other ∙ own.own j (ap (is_of_worker mate.worker) (sym (change.others j other)) ∙ of) ∙ sym (writes.others (RecordOf j) (λ e. other cc)));
  }

  module _ (saw : WritesWord (RecordOf k) x (sees view) (sees then)) where
    seen_others : (j : ℕ) → j ≢ k → sees then (RecordOf j) ≡ sees view (RecordOf j)
    seen_others j apart = saw.others (RecordOf j) (λ e. apart cc)

    -- the first of the crew has made its turn
    member_own : IsMember run after then (record member { turn = member.turn + 1 })
    member_own = record {
      turn =
          let more = turns_of-recorded (record_at before) (record_at after) k entry change (length run.marks) low in
          let own = ap (turns_of (record_at after) (length run.marks)) entry_worker in
          let was = ap (turns_of (record_at before) (length run.marks)) entry_worker in
          omega (arith, more, own, was, first.turn);
      own = λ j of.
          elim (cases_eq j k) [
            | inl e ↦ ap (λ i. sees then (RecordOf i)) e ∙ saw.here ∙ sym writes.here ∙ ap (λ i. after (RecordOf i)) (sym e)
            | inr other ↦
                seen_others j other ∙ first.own j (ap (is_of_worker member.worker) (sym (change.others j other)) ∙ of)
                ∙ sym (writes.others (RecordOf j) (λ e. other cc))
          ];
    }

    -- the worker of the record is in no other crew,
    apart_crew :
        (i : ℕ) (u : View) → i ≢ id → get_elem? views i ≡ some u → (j : ℕ) (mate : Member) → get_elem? u.crew j ≡ some mate → member.worker ≢ mate.worker
    apart_crew i u apart e j mate there same =
        let two = sum-two (λ v. times mate.worker v.crew) views i id u view apart e at in
        let here : 1 ≤ times mate.worker view.crew =
        subst (λ w. 1 ≤ times w view.crew) same (times-at view.crew 0 member (ap (λ l. get_elem? l 0) crew_is)) in
        let there_too : 1 ≤ times mate.worker u.crew = times-at u.crew j mate there in
        absurd (omega (arith, two, here, there_too, turns.in_one_crew mate.worker, once_if-most (nat_lt mate.worker run.workers)))

    -- and once in its own
    apart_mate : (j : ℕ) (mate : Member) → get_elem? crew j ≡ some mate → member.worker ≢ mate.worker
    apart_mate j mate there same =
        let all = sum-one (λ v. times mate.worker v.crew) views id view at in
        let rest : 1 ≤ times mate.worker crew = times-at crew j mate there in
        let here : once_if (member.worker == mate.worker) ≡ 1 = ap once_if (eq-eqb member.worker mate.worker same) in
        absurd (omega (
          arith,
          all,
          rest,
          here,
          times-cons member crew mate.worker,
          ap (times mate.worker) crew_is,
          turns.in_one_crew mate.worker,
          once_if-most (nat_lt mate.worker run.workers),
        ))

    mates : (j : ℕ) (mate : Member) → get_elem? (one_turn_more (member ∷ crew)) j ≡ some mate → IsMember run after then mate
    mates zero mate e = subst (IsMember run after then) (some-injective (record member { turn = member.turn + 1 }) mate e) member_own
    mates (suc j) mate e =
        member_apart view then mate (apart_mate j mate e) seen_others
        (turns.members id view at (suc j) mate (subst (λ l. get_elem? l (suc j) ≡ some mate) (sym crew_is) e))

    pub Turns-finished : Turns run after (set views id then)
    Turns-finished = record {
      workers = AreTurns-recorded (record_at before) (record_at after) k entry change (length run.marks) low turns.workers own_turn;
      members = each-set views id then (λ u. (i : ℕ) (mate : Member) → get_elem? u.crew i ≡ some mate → IsMember run after u mate)
          (λ i u apart e j mate there. member_apart u u mate (apart_crew i u apart e j mate there) (λ n other. refl) (turns.members i u e j mate there))
          (λ j mate there. mates j mate (subst (λ l. get_elem? l j ≡ some mate) (ap one_turn_more crew_is) there));
      in_one_crew = λ w. omega (
        arith,
        turns.in_one_crew w,
        sum-set (λ u. times w u.crew) views id view then at,
        times-cons (record member { turn = member.turn + 1 }) crew w,
        times-cons member crew w,
        ap (times w) crew_is,
        ap (λ l. times w (one_turn_more l)) crew_is,
      );
    }
