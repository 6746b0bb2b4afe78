use Rattle.std.proofs.Common.{◌<◌, true, false, length, sym, ◌∙◌, arith}
use Rattle.any_time.proofs.BatchReports.{one_path_more, one_scene_more, settled_at}
use Rattle.any_time.proofs.batch_reports.batch_report.Goals as goal
use Rattle.any_time.proofs.batch_reports.batch_report.Goals.{then-has_paths, else-has_paths}

pub push_scene_report-requires : goal.push_scene_report-requires
push_scene_report-requires c =
    let within : c.loop-number.number < length c.args.runs.now = omega (arith, c.loop-number-test.true, c.len-number-end.ensures) in
    settled_at c.args.runs.now c.loop-number.number _ within
    (rw c.as_slice-in-loop-number.ensures at c.index-as_slice-number-in-loop-number.is) c.requires.settled

pub loop-number-preserved : goal.loop-number-preserved
loop-number-preserved c =
    let runs = c.args.runs.now in
    let within : c.loop-number.number < length runs = omega (arith, c.loop-number-test.true, c.len-number-end.ensures) in
    let run_is = rw c.as_slice-in-loop-number.ensures at c.index-as_slice-number-in-loop-number.is in
    let items_are = rw c.as_slice.ensures at c.index-as_slice-number.is in
    let more = rw c.as_slice-items.ensures at c.in_ok-found.ensures.text in
    let kept = c.loop-number.invariant in (
      one_scene_more runs c.loop-number.number _ within run_is c.args.better.now _ c.requires.count items_are _ _ _ more kept.0,
      elim c.if-has_paths.branch [
        | then-has_paths w ↦
            w.has_paths-is
            ∙ (c.in_ok-found.ensures.path ∙ one_path_more runs c.loop-number.number _ within run_is true (sym w.if-has_paths.true ∙ kept.1))
        | else-has_paths w ↦
            w.has_paths-is
            ∙ (w.if-has_paths.false ∙ one_path_more runs c.loop-number.number _ within run_is false (sym w.if-has_paths.false ∙ kept.1))
      ],
    )
