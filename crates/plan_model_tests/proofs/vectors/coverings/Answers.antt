use Rattle.std.proofs.Common.{◌≡◌, eqb, true, refl, subst}
use Rattle.plan_model.specs.declared.text_terms.Key.TheVariants as keys
use Rattle.plan_model_tests.proofs.vectors.coverings.Goals as goal

pub returns : goal.returns
returns c = record {
  all = λ scene. record { version = refl; keys = λ key has. refl };
  key_left_out = λ scene informed covers. (let no = covers.keys keys.Informed informed in cc);
  version_left_out = λ scene second covers. (let no = subst (λ version. eqb version 1 ≡ true) second covers.version in cc);
}
