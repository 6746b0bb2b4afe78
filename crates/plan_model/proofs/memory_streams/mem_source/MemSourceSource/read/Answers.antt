use Rattle.std.proofs.Common.{◌+◌, ◌≤◌, min, length, ap, ◌∙◌, arith}
use Rattle.plan_model.proofs.ReadBytes.{bytes_consumed, no_byte_left, is_failing_at, slice_read, some_room}
use Rattle.plan_model.proofs.memory_streams.mem_source.MemSourceSource.read.Goals as goal

pub returns-then-count-eq0-clause-bytes : goal.returns-then-count-eq0-clause-bytes
returns-then-count-eq0-clause-bytes c =
    let into = c.args.into.now in
    let source = c.self.inside.unread in
    let moved = c.move_into-count.new.into in
    let after = c.move_into-count.new.self in
    let count = c.move_into-count.result in
    let most = c.min-most.result in
    let given = c.move_into-count.ensures in
    let room = some_room into c.is_empty.result c.is_empty.ensures c.if-is_empty.false in
    let fits : most ≤ length into = omega (arith, c.min-most.ensures) in (
      bytes_consumed c.args.self.now.left source moved after into count most (ap (λ state. state.left) c.self.view_is) fits given.count given.left given.prefix,
      λ none _. no_byte_left source moved after into count most c.self.inside.most c.self.invariant.0 room c.min-most.ensures given.count given.left none,
    )

pub returns-then-count-eq0-clause-slice : goal.returns-then-count-eq0-clause-slice
returns-then-count-eq0-clause-slice c =
    let into = c.args.into.now in
    let state = c.args.self.now in
    let view = c.self.view_is in
    let given = c.move_into-count.ensures in
    let next = c.saturating_add-self-inside.ensures ∙ ap (λ seen. min (seen.calls + 1) 18446744073709551615) view in
    let fails = c.deref.ensures.value ∙ ap (λ seen. seen.fails) view in
    let works = is_failing_at state c.saturating_add-self-inside.result c.deref.result.now next fails c.if-is_failing_call.ensures.listed in
    slice_read state c.self.inside.unread c.move_into-count.new.into into c.move_into-count.result c.min-most.result (ap (λ seen. seen.left) view)
    (some_room into c.is_empty.result c.is_empty.ensures c.if-is_empty.false) works
    (c.min-most.ensures ∙ ap (λ seen. min seen.most (length into)) view) given.count given.prefix

pub returns-else-count-eq0-clause-bytes : goal.returns-else-count-eq0-clause-bytes
returns-else-count-eq0-clause-bytes c =
    let into = c.args.into.now in
    let most = c.min-most.result in
    let given = c.move_into-count.ensures in
    let fits : most ≤ length into = omega (arith, c.min-most.ensures) in (
      bytes_consumed c.args.self.now.left c.self.inside.unread c.move_into-count.new.into c.move_into-count.new.self into c.move_into-count.result most
          (ap (λ state. state.left) c.self.view_is) fits given.count given.left given.prefix,
      λ none _. absurd (c.if-count-eq0.false none),
    )

pub returns-else-count-eq0-clause-slice : goal.returns-else-count-eq0-clause-slice
returns-else-count-eq0-clause-slice c =
    let into = c.args.into.now in
    let state = c.args.self.now in
    let view = c.self.view_is in
    let given = c.move_into-count.ensures in
    let next = c.saturating_add-self-inside.ensures ∙ ap (λ seen. min (seen.calls + 1) 18446744073709551615) view in
    let fails = c.deref.ensures.value ∙ ap (λ seen. seen.fails) view in
    let works = is_failing_at state c.saturating_add-self-inside.result c.deref.result.now next fails c.if-is_failing_call.ensures.listed in
    slice_read state c.self.inside.unread c.move_into-count.new.into into c.move_into-count.result c.min-most.result (ap (λ seen. seen.left) view)
    (some_room into c.is_empty.result c.is_empty.ensures c.if-is_empty.false) works
    (c.min-most.ensures ∙ ap (λ seen. min seen.most (length into)) view) given.count given.prefix
