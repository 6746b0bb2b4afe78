use Rattle.plan_model_tests.proofs.Words.{arith, refl, inl, codes, supported, refused_at_line}
use Rattle.plan_model.specs.declared.text_terms.Kind.TheVariants as kinds
use Rattle.plan_model.proofs.Soundness.{are_sound}
use Rattle.plan_model_tests.proofs.vectors.batch_texts.Goals as goal

pub returns : goal.returns
unfolding are_sound
returns c = record {
  cut = refl;
  empty_parts = refl;
  empty_text = refl;
  second = refl;
  before_second = refl;
  before_third = refl;
  refused = (
    0,
    omega arith,
    λ k h. absurd (omega (arith, h)),
    inl (omega arith, (2, refl, refused_at_line supported (codes "prrt 1\nstar\n") 1 kinds.Key refl (omega arith) refl)),
  );
}
