-- Texts of several scenes: how they are cut into parts, and which line of the whole text is refused.
use Rattle.std.specs.Prelude.{◌≡◌, [], ◌∷◌, codes}
use Rattle.plan_model.specs.Texts.TextLines.{lines_of}
use Rattle.plan_model.specs.Texts.SceneGrammar.{RefusesBatch, lines_before, part_text, parts_of, supported}
use Rattle.plan_model.specs.declared.text_terms.Kind.TheVariants as kinds

pub record BatchTextVectors : Type 0 where
  -- a line with a space after the word cuts nothing
  pub cut : parts_of (lines_of (codes "a\nnext\nnext \nb")) ≡ (codes "a" ∷ []) ∷ (codes "next " ∷ codes "b" ∷ []) ∷ []
  pub empty_parts : parts_of (lines_of (codes "next\n")) ≡ [] ∷ [] ∷ []
  pub empty_text : parts_of [] ≡ [] ∷ []
  pub second : part_text (parts_of (lines_of (codes "a\nnext\nb\nc"))) 1 ≡ codes "b\nc\n"
  pub before_second : lines_before (parts_of (lines_of (codes "a\nb\nnext\nc"))) 1 ≡ 3
  pub before_third : lines_before (parts_of (lines_of (codes "a\nb\nnext\nnext\nc"))) 2 ≡ 4
  pub refused : RefusesBatch supported (codes "prrt 1\nstar\nnext\nprrt 1\n") 2 kinds.Key
