-- The definitions and lemmas that proofs of this crate are about, passed on from one place. Declares nothing.
pub use Rattle.convex_sets.proofs.ZoneLaws.{bounded_corners}
pub use Rattle.convex_sets.specs.Boxes.{AreBoundedCorners}
pub use Rattle.plan_model.proofs.BatchParts.{first_part, first_part-line, later_parts, later_parts-line, lines_before-next, lines_of-first, parts_of-first}
pub use Rattle.plan_model.proofs.BatchParts.{some_part}
pub use Rattle.plan_model.proofs.GivenScenes.{obstacles-given}
pub use Rattle.plan_model.proofs.ReadVersions.{IsReadVersion-given}
pub use Rattle.plan_model.proofs.SameScenes.{Spells-one_scene}
pub use Rattle.plan_model.proofs.SceneBounds.{least_obstacle-counted, most_obstacle-counted}
pub use Rattle.plan_model.proofs.SceneParts.{IsWithin, body-within, clearance-within, corners-within, gamma-within, goals-within, informed-by_number}
pub use Rattle.plan_model.proofs.SceneParts.{informed-within, plan-within, room-within, start-within, step-within, strips-within}
pub use Rattle.plan_model.proofs.SoundStatements.{IsSoundGiven-text}
pub use Rattle.plan_model.proofs.Soundness.{Spells-not_refused}
pub use Rattle.plan_model.proofs.StatementNumbers.{given_by-append, given_by-push, key_of-name, name-key_of, statements_of-push}
pub use Rattle.plan_model.proofs.WiderRanges.{IsBetween-wider, are_goals-wider, are_obstacles-wider, clearance-wider, is_plan-wider, may_be_informed-wider}
pub use Rattle.plan_model.proofs.WiderRanges.{step-wider}
pub use Rattle.plan_model.specs.Geometry.Plane.{is_strictly_convex}
pub use Rattle.plan_model.specs.Reports.ReportText.{line}
pub use Rattle.plan_model.specs.Scenes.Limits.{IsBetween, are_goals, are_obstacles, by_version, is_body, is_corner_between, is_goal, is_mark, is_obstacle}
pub use Rattle.plan_model.specs.Scenes.Limits.{is_plan, least_obstacle_coordinate, may_be_informed, most_clearance, most_goals, most_obstacle_coordinate}
pub use Rattle.plan_model.specs.Scenes.Limits.{most_side, most_step}
pub use Rattle.plan_model.specs.Texts.CanonicalText.{Covers, canonical_statements, canonical_text, clearance_statements, corner_numbers, goal_numbers}
pub use Rattle.plan_model.specs.Texts.CanonicalText.{goal_statement, informed_statements, mark_statement, obstacle_statement, plan_statements, point_numbers}
pub use Rattle.plan_model.specs.Texts.CanonicalText.{has_key, search_statements, statement, task_statements, version_statement}
pub use Rattle.plan_model.specs.Texts.Keys.{every_key, fits_words, format_name, is_key, key_among, key_of, least_of, most_corners, most_lines, most_of}
pub use Rattle.plan_model.specs.Texts.Keys.{name_of, rival_of, version_word}
pub use Rattle.plan_model.specs.Texts.LineChecks.{AllMayStand, Check, Format, Given, MayStand, are_between, begins_with, corners_from, fault_after}
pub use Rattle.plan_model.specs.Texts.LineChecks.{fault_at_end, fault_at_key, fault_of_statement, fault_of_version, fault_of_words, first_failing, given_by}
pub use Rattle.plan_model.specs.Texts.LineChecks.{has_corners, is_in_range, is_inhabited, is_ordered, is_repeated, is_too_many, stands, stands_any, version_of}
pub use Rattle.plan_model.specs.Texts.LineChecks.{with_statement}
pub use Rattle.plan_model.specs.Texts.SceneGrammar.{AreSpelledBelow, HasFields, IsSoundBelow, Part, Refused, RefusesBatch, Spells, SpellsBatch, body_from}
pub use Rattle.plan_model.specs.Texts.SceneGrammar.{fault_of_end, fault_of_line, first_of, given_after_version, goal_from, is_supported, lines_before}
pub use Rattle.plan_model.specs.Texts.SceneGrammar.{number_or, part_text, parts_of, plan_from, point_from, separator, supported, text_of, version_given}
pub use Rattle.plan_model.specs.Texts.SceneGrammar.{whole_format}
pub use Rattle.plan_model.specs.Texts.Streams.{counted_up}
pub use Rattle.plan_model.specs.Texts.TextLines.{is_digit, is_number, is_positive, is_skipped, lines_of, magnitude, pieces_of, statements_of, value_of}
pub use Rattle.plan_model.specs.Texts.TextLines.{words_of}
pub use Rattle.plan_model.specs.declared.geometry.Goal.{Goal}
pub use Rattle.plan_model.specs.declared.geometry.Point.{Point}
pub use Rattle.plan_model.specs.declared.geometry.Vertex.{Vertex}
pub use Rattle.plan_model.specs.declared.limits.TheConstants.{LEAST_BODY_COORDINATE, LEAST_CORNERS, LEAST_CORNER_COORDINATE, LEAST_OBSTACLE_COORDINATE}
pub use Rattle.plan_model.specs.declared.limits.TheConstants.{LEAST_OBSTACLE_COORDINATE_OF_VERSION_2, LEAST_SIDE, LEAST_STEP, MOST_BODY_COORDINATE}
pub use Rattle.plan_model.specs.declared.limits.TheConstants.{MOST_BODY_CORNERS, MOST_CLEARANCE, MOST_CORNER_COORDINATE, MOST_GAMMA, MOST_GOALS, MOST_MARKS}
pub use Rattle.plan_model.specs.declared.limits.TheConstants.{MOST_OBSTACLES, MOST_OBSTACLE_COORDINATE, MOST_OBSTACLE_COORDINATE_OF_VERSION_2}
pub use Rattle.plan_model.specs.declared.limits.TheConstants.{MOST_OBSTACLE_CORNERS, MOST_SCENES, MOST_SEED, MOST_SIDE, MOST_SIDE_OF_VERSION_2, MOST_STEP}
pub use Rattle.plan_model.specs.declared.limits.TheConstants.{MOST_STEP_OF_VERSION_2, MOST_STRIPS, MOST_TEXT_BYTES}
pub use Rattle.plan_model.specs.declared.scenes.Marks.{Marks}
pub use Rattle.plan_model.specs.declared.scenes.Marks.TheVariants.{Drawn, Listed}
pub use Rattle.plan_model.specs.declared.scenes.Scene.{Scene}
pub use Rattle.plan_model.specs.declared.text_terms.Key.{Key}
pub use Rattle.plan_model.specs.declared.text_terms.Kind.{Kind}
pub use Rattle.scene_text.specs.Fetching.{Fetches, IsBatchRefusal, IsPartRefusal, ReadsWithin}
pub use Rattle.scene_text.specs.Drafts.{IsLineRefusal, IsSceneRefusal, IsSoundDraft, TakesLine, amount_numbers, given_after, given_by_draft, line_numbers}
pub use Rattle.scene_text.specs.Drafts.{refusal_at, version_after}
pub use Rattle.scene_text.specs.declared.drafts.Draft.{Draft}
pub use Rattle.scene_text.specs.declared.fetching.FetchFault.{FetchFault}
pub use Rattle.scene_text.specs.declared.refusals.LineRefusal.{LineRefusal}
pub use Rattle.scene_text.specs.declared.refusals.SceneRefusal.{SceneRefusal}
pub use Rattle.std.proofs.Common.{All, Bool, Err, IfErr, IfOk, IsErrOf, IsTrue, List, None, Ok, OnOk, Option, Result, Some, Vec, [], ap, ap₂, arith, cond}
pub use Rattle.std.proofs.Common.{decimal, drop, eqb, false, filter, get_or, inl, inr, int_le, is_some, leb, length, length-take, ltb, map, negsuc, not, pos}
pub use Rattle.std.proofs.Common.{refl, rules, string_bytes, subst, suc, sym, take, true, vec_len, zero, ℕ, ℤ, ◌%◌, ◌&&◌, ◌*◌, ◌++◌, ◌+◌, ◌-◌, ◌/◌, ◌<◌, ◌^◌}
pub use Rattle.std.proofs.Common.{◌||◌, ◌∙◌, ◌∷◌, ◌≡◌, ◌≢◌, ◌≤ℤ◌, ◌≤◌, ◌⊎◌}
pub use Rattle.std.proofs.KnownBytes.{Consumes-kept, Consumes-trans}
pub use Rattle.std.proofs.Math.ListN.{get_or-map}
pub use Rattle.std.proofs.Math.Seq.{get_or-append_seam}
pub use Rattle.std.proofs.lemmas.Bool.{and_parts, cases_lt, leb-true, true≢false}
pub use Rattle.std.proofs.lemmas.Bool.Decides.{nat_tests}
pub use Rattle.std.proofs.lemmas.Fmt.{decimal_by_steps, decimal_digit, decimal_nonempty, length-decimal-le}
pub use Rattle.std.proofs.lemmas.Grind.{common_steps, flat_map-append}
pub use Rattle.std.proofs.lemmas.Int.{ints}
pub use Rattle.std.proofs.lemmas.List.{append-nil, append_assoc, drop_more, get_or_append_left, length-drop, length-map, map-append, take-map, take_all}
pub use Rattle.std.proofs.lemmas.List.{take_more}
pub use Rattle.std.proofs.lemmas.List.Elements.{All-head}
pub use Rattle.std.proofs.lemmas.List.Folds.{list_all-append}
pub use Rattle.std.proofs.lemmas.List.Sums.{fold-append}
pub use Rattle.std.proofs.lemmas.Result.{err_from_is_err_and}
pub use Rattle.std.specs.Fmt.{signed_decimal}
pub use Rattle.std.specs.Io.KnownBytes.{Consumes, Keeps}
pub use Rattle.std.specs.List.{flat_map, join_with_byte, list_all}
pub use Rattle.std.specs.Option.{unwrap_or}
pub use Rattle.std.specs.Prelude.{bytes_eq, ⊤}
