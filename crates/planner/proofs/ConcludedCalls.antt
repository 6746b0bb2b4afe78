-- What a whole call has done, from the answer that it writes and from what was written.
use Rattle.planner.proofs.Words.{◌≡◌, ◌≢◌, ℕ, ◌⊎◌, inl, inr, true, false, Option, None, IfSome, List, refl, sym, subst, ◌∙◌, eqb, eqb_tells, SourceState}
use Rattle.planner.proofs.Words.{SinkState, ReadsWithin, Command, Refusal, WORDS_REFUSED, WRITE_FAULT, NO_MEMORY, Done, reads_text, IsAnswer, IsCaused, Asks}
use Rattle.planner.proofs.Words.{IsDecided, HasConcluded, ReadFailed, IsUnread, IsWrittenWhole, IsCutShort, status_of}
use Rattle.planner.proofs.Words.{AreNoText, Err, Error, IntoIter, Ok, Result, String, [], given}
use Rattle.std.specs.Global.{Global}
use Rattle.planner.specs.declared.refusals.Refusal.TheVariants as refusals
use Rattle.planner.proofs.DecidedStatuses.{success_decided, refusal_decided}

-- arguments that are no text are no words
pub no_words : (args : Result (IntoIter (String Global) Global) Error) → AreNoText args → given args ≡ []
no_words (Ok args) no_text = absurd no_text
no_words (Err error) no_text = refl

-- words that ask for no command are refused for that alone
pub status_of-words : (before now : SourceState) (refusal : Refusal) → IsCaused None before now refusal → status_of refusal ≡ WORDS_REFUSED
status_of-words before now refusals.Words cause = refl
status_of-words before now refusals.Memory cause = absurd cc
status_of-words before now refusal cause = absurd cause.0

module _ (asked : Option Command) (before now : SourceState) (answered : Done) (text : List ℕ) where
  status-words : IsAnswer asked before now answered text → asked ≡ None → answered.status ≡ WORDS_REFUSED
  status-words (inl success) none = absurd cc
  status-words (inr refused) none =
      refused.status
      ∙ status_of-words before now refused.refusal (subst (λ (a : Option Command). IsCaused a before now refused.refusal) none refused.cause)

  status-decided : IsAnswer asked before now answered text → ¬ ReadFailed before now →
      (answered.status ≡ NO_MEMORY) ⊎ IfSome asked (λ command. IsDecided before.bytes_left command answered.status)
  status-decided (inl success) sure = inr (success_decided asked before now answered text success)
  status-decided (inr refused) sure = rw refused.status (refusal_decided asked before now refused.refusal refused.cause sure)

  -- the answer was written, or the sink failed and the status alone became another
  pub HasConcluded-answer :
      (sink_before sink_now : SinkState) (result : Done) → IsAnswer asked before now answered text
      → ((¬ Asks reads_text asked) → IsUnread before now) → ReadsWithin before.bytes_left now.bytes_left
      → (result.status ≢ WRITE_FAULT → (result ≡ answered) × IsWrittenWhole sink_before sink_now text)
      → (result.status ≡ WRITE_FAULT → (record result { status = answered.status } ≡ answered) × IsCutShort sink_before sink_now text)
      → HasConcluded asked before now sink_before sink_now result
  HasConcluded-answer sink_before sink_now result answer unread within whole cut = record {
    done = λ other. (text, subst (λ (d : Done). IsAnswer asked before now d text) (sym (whole other).0) answer, (whole other).1);
    cut = λ fault.
        (answered.status, text, subst (λ (d : Done). IsAnswer asked before now d text) (sym (cut fault).0) answer, (cut fault).1);
    decided = λ sure written.
        rw (whole (λ fault. written (cut fault).1.rose)).0 (status-decided answer sure);
    words = λ none. by_status none (eqb_tells result.status WRITE_FAULT);
    unread = unread;
    within = within;
  }
    where
      by_status :
          asked ≡ None → ((eqb result.status WRITE_FAULT ≡ true) × (result.status ≡ WRITE_FAULT))
          ⊎ ((eqb result.status WRITE_FAULT ≡ false) × (result.status ≢ WRITE_FAULT)) → (result.status ≡ WORDS_REFUSED) ⊎ (result.status ≡ WRITE_FAULT)
      by_status none (inl fault) = inr fault.1
      by_status none (inr other) = inl (rw (whole other.1).0 (status-words answer none))
