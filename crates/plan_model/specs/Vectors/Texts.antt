-- Texts that are refused, and a text that spells a scene.
use Rattle.std.specs.Prelude.{◌≡◌, true, false, pos, negsuc, [], ◌∷◌, codes, ℕ, List, Ok, Err, ◌==◌, ◌++◌}
use Rattle.plan_model.specs.Texts.TextLines.{lines_of, words_of, is_skipped, is_number, value_of}
use Rattle.plan_model.specs.Texts.Streams.{FaultsRose, MemSinkState, MemSourceState, ended_after, counted_up, write_result, after_write, read_result}
use Rattle.plan_model.specs.Texts.Streams.{after_read, read_into}
use Rattle.plan_model.specs.Terms.{Drawn, Listed}
use Rattle.plan_model.specs.declared.scenes.Scene.{Scene}
use Rattle.plan_model.specs.Texts.LineChecks.{Format}
use Rattle.plan_model.specs.Texts.SceneGrammar.{supported, Refused, Spells}
use Rattle.plan_model.specs.Texts.CanonicalText.{canonical_text}
use Rattle.plan_model.specs.Vectors.Geometry.{at, corner, corner_below}
use Rattle.plan_model.specs.declared.text_terms.Kind.TheVariants as kinds

-- ---- Lines, words and numbers of the grammar.
pub record LineVectors : Type 0 where
  pub unended : lines_of (codes "one\ntwo") ≡ codes "one" ∷ codes "two" ∷ []
  pub ended : lines_of (codes "one\ntwo\n") ≡ codes "one" ∷ codes "two" ∷ []
  pub empty_text : lines_of [] ≡ []
  pub empty_line : lines_of (codes "\n") ≡ [] ∷ []
  pub spaces : words_of (codes "  step   50 ") ≡ codes "step" ∷ codes "50" ∷ []
  pub tab : words_of (codes "step\t50  x") ≡ codes "step\t50" ∷ codes "x" ∷ []
  pub blank : words_of (codes "   ") ≡ []
  pub two_empty_lines : lines_of (codes "\n\n") ≡ [] ∷ [] ∷ []
  pub no_words : is_skipped (words_of []) ≡ true
  pub comment : is_skipped (words_of (codes "  #room 1 1")) ≡ true
  pub mark_inside : is_skipped (words_of (codes "room# 1 1")) ≡ false

pub record NumberVectors : Type 0 where
  pub zero : is_number (codes "0") ≡ true
  pub digits : is_number (codes "7") ≡ true
  pub below_zero : is_number (codes "-7") ≡ true
  pub leading_zero : is_number (codes "04") ≡ false
  pub minus_zero : is_number (codes "-0") ≡ false
  pub plus : is_number (codes "+1") ≡ false
  pub minus : is_number (codes "-") ≡ false
  pub letter : is_number (codes "12a") ≡ false
  pub no_byte : is_number [] ≡ false
  pub twelve : value_of (codes "12") ≡ pos 12
  pub minus_twelve : value_of (codes "-12") ≡ negsuc 11
  pub two_zeros : is_number (codes "00") ≡ false
  pub ten : is_number (codes "10") ≡ true
  pub minus_twice : is_number (codes "--1") ≡ false
  pub minus_after : is_number (codes "1-") ≡ false
  pub minus_leading_zero : is_number (codes "-01") ≡ false
  pub nought : value_of (codes "0") ≡ pos 0
  -- one more than the last value of a u64
  pub long : value_of (codes "18446744073709551616") ≡ pos 18446744073709551616

-- ---- Counts of faults, and calls on streams in memory.
-- room for so many bytes, of which one is taken; the third call fails
abbrev pub sink_with : ℕ → ℕ → MemSinkState
sink_with room calls = record { bytes = 65 ∷ []; room = room; most = 2; fails = 3 ∷ []; calls = calls; faults = 0 }

-- a source of these bytes that gives two of them at most in one call; the third call fails
abbrev pub source_of : List ℕ → ℕ → MemSourceState
source_of left calls = record { left = left; ended = false; most = 2; fails = 3 ∷ []; calls = calls; faults = 0 }

pub record StreamVectors : Type 0 where
  pub risen : FaultsRose 0 1
  pub not_risen : ¬ FaultsRose 7 7
  -- a count at the last value of a u64 counts as risen
  pub at_last_value : FaultsRose 18446744073709551615 18446744073709551615
  pub before_last_value : ¬ FaultsRose 18446744073709551614 18446744073709551614
  pub stops : counted_up 18446744073709551615 ≡ 18446744073709551615
  -- the end is given by a read of no byte into a place, and stays given
  pub end : ended_after false 5 0 ≡ true
  pub no_place : ended_after false 0 0 ≡ false
  pub not_yet : ended_after false 5 1 ≡ false
  pub still : ended_after true 0 0 ≡ true
  -- a write of no byte is not numbered, also if the room is full or the next call fails
  pub no_byte : write_result (sink_with 1 2) [] ≡ Ok 0
  pub no_byte_after : after_write (sink_with 1 2) [] ≡ sink_with 1 2
  pub full : write_result (sink_with 1 0) (66 ∷ []) ≡ Err (record {})
  pub listed : write_result (sink_with 9 2) (66 ∷ []) ≡ Err (record {})
  pub one_place : write_result (sink_with 2 0) (66 ∷ 67 ∷ 68 ∷ []) ≡ Ok 1
  pub at_most_two : write_result (sink_with 9 0) (66 ∷ 67 ∷ 68 ∷ []) ≡ Ok 2
  pub read_two : read_result (source_of (65 ∷ 66 ∷ 67 ∷ []) 0) 5 ≡ Ok 2
  pub read_end : read_result (source_of [] 0) 5 ≡ Ok 0
  pub read_listed : read_result (source_of [] 2) 5 ≡ Err (record {})
  pub read_no_place : after_read (source_of [] 2) 0 ≡ source_of [] 2
  -- the places after the bytes that are read keep what they hold
  pub prefix : read_into (source_of (65 ∷ []) 0) (1 ∷ 2 ∷ 3 ∷ []) ≡ 65 ∷ 2 ∷ 3 ∷ []

-- ---- texts
-- version 1 without its keys
abbrev pub without_keys : Format
without_keys = record { reads = λ version. version == 1; built = λ key. false }

pub record RefusalVectors : Type 0 where
  pub empty_text : Refused supported [] 1 kinds.Version
  pub other_version : Refused supported (codes "# a scene\n\nprrt 3\n") 3 kinds.Version
  pub not_a_key : Refused supported (codes "prrt 1\nroom 10 10\nstar\n") 3 kinds.Key
  pub not_supported : Refused without_keys (codes "prrt 1\nroom 10 10\n") 2 kinds.Unbuilt
  pub repeated : Refused supported (codes "prrt 1\nroom 10 10\nstep 4\nstep 4\n") 4 kinds.Repeat
  pub word_missing : Refused supported (codes "prrt 1\nroom 10\n") 2 kinds.Words
  pub not_a_number : Refused supported (codes "prrt 1\nroom 10 010\n") 2 kinds.Number
  pub too_low : Refused supported (codes "prrt 1\nroom 10 0\n") 2 kinds.Range
  pub too_high : Refused supported (codes "prrt 1\nstart 65536 0\n") 2 kinds.Range
  pub not_in_order : Refused supported (codes "prrt 1\ngoal 8 9 9 8\n") 2 kinds.Range
  pub clockwise : Refused supported (codes "prrt 1\nobstacle 0 0 0 9 9 9\n") 2 kinds.Corners
  pub body_of_two_corners : Refused supported (codes "prrt 1\nbody 0 0 1 0\n") 2 kinds.Words
  pub body_twice : Refused supported (codes "prrt 1\nbody 0 0\nbody 1 1\n") 3 kinds.Repeat
  pub three_in_a_line : Refused supported (codes "prrt 1\nbody 0 0 5 0 9 0 9 9\n") 2 kinds.Corners
  pub drawn_and_listed : Refused supported (codes "prrt 1\nmarks 5\nmark 1 1\n") 3 kinds.Repeat
  pub missing : Refused supported (codes "prrt 1\nroom 10 10\nstart 5 5\nstep 4\n") 5 kinds.Missing
  pub comments_alone : Refused supported (codes "# a\n\n  # b") 4 kinds.Version
  pub third_word : Refused supported (codes "prrt 1 1\n") 1 kinds.Version
  pub version_again : Refused supported (codes "prrt 1\nprrt 1\n") 2 kinds.Key
  pub version_alone : Refused supported (codes "prrt 1") 2 kinds.Missing
  pub listed_and_drawn : Refused supported (codes "prrt 1\nmark 1 1\nmarks 5\n") 3 kinds.Repeat
  pub first_of_two_faults : Refused supported (codes "prrt 1\nroom 0 1\nstar\n") 2 kinds.Range

abbrev pub sound_text : List ℕ
sound_text = codes "prrt 1\n# a scene\nroom 10 10\nstart 5 5\n\ngoal 8 8 9 9\nstep 4\nmark 7 7\n"

-- the text spells a scene, and this is the scene
pub record SpellingVector : Type 0 where
  pub scene : Scene
  pub spelled : Spells supported sound_text scene
  pub room : scene.room ≡ at 10 10
  pub body : scene.body ≡ corner 0 0 ∷ []
  pub obstacles : scene.obstacles ≡ []
  pub start : scene.start ≡ at 5 5
  pub version : scene.version ≡ 1
  pub goals : scene.goals ≡ record { low = at 8 8; high = at 9 9 } ∷ []
  pub clearance : scene.clearance ≡ 0
  pub informed : scene.informed ≡ false
  pub step : scene.step ≡ 4
  pub gamma : scene.gamma ≡ 0
  pub plan : scene.plan ≡ Listed (at 7 7 ∷ [])
  pub seed : scene.seed ≡ 0
  pub strips : scene.strips ≡ 1
  -- its canonical text, with a line for each field, whether the text has one or not
  pub canonical : canonical_text scene ≡ codes "prrt 1\nroom 10 10\nbody 0 0\nstart 5 5\ngoal 8 8 9 9\nstep 4\ngamma 0\nseed 0\nstrips 1\nmark 7 7\n"

abbrev pub text_with_polygons : List ℕ
text_with_polygons = codes "prrt 1\nobstacle 4 4 6 4 5 7\nroom 9 9\nbody -1 -2 3 0 0 4\nstart 0 0\nobstacle -9 -2 3 2 3 3\ngoal 1 1 2 2\nstep 4\n"

-- the text has a body and two obstacles, and the scene has their corners, in the order of the lines
pub record PolygonSpellingVector : Type 0 where
  pub scene : Scene
  pub spelled : Spells supported text_with_polygons scene
  pub body : scene.body ≡ corner_below 1 2 ∷ corner 3 0 ∷ corner 0 4 ∷ []
  pub obstacles : scene.obstacles ≡ (corner 4 4 ∷ corner 6 4 ∷ corner 5 7 ∷ []) ∷ (corner_below 9 2 ∷ corner 3 2 ∷ corner 3 3 ∷ []) ∷ []

abbrev pub text_of_every_field : List ℕ
text_of_every_field = codes "prrt 1\nstrips 64\nseed 18446744073709551615\ngamma 16777215\nstep 4096\n"
    ++ codes "body 1 2\nobstacle 4 4 6 4 5 7\nroom 9 9\nstart 0 0\ngoal 1 1 2 2\nmarks 262143\n"

-- the text gives every field, some of them the greatest number that may stand there
pub record FieldSpellingVector : Type 0 where
  pub scene : Scene
  pub spelled : Spells supported text_of_every_field scene
  pub gamma : scene.gamma ≡ 16777215
  pub seed : scene.seed ≡ 18446744073709551615
  pub strips : scene.strips ≡ 64
  pub plan : scene.plan ≡ Drawn 262143
  pub canonical : canonical_text scene
      ≡ codes "prrt 1\nroom 9 9\nbody 1 2\nobstacle 4 4 6 4 5 7\nstart 0 0\ngoal 1 1 2 2\n"
      ++ codes "step 4096\ngamma 16777215\nseed 18446744073709551615\nstrips 64\nmarks 262143\n"
