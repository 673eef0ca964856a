-- `list_pruned` meets its contract: the segment itself, or the ancestors that have a root's mark.
use native.Mathlib.Omega.{arith}
use mathlib.Core.Path.{refl}
use Rattle.lists.specs.Sets.{keep}
use Rattle.words.specs.Part.{part}
use Rattle.owned.specs.Marks.{root_of}
use Rattle.query.proofs.Telling.{put_one, put_rest, pruned-listed}
use Rattle.query.proofs.answer.list_pruned.Goals as goal

pub returns-then-is_root : goal.returns-then-is_root
returns-then-is_root c =
    let p = put_one c.is_root.result (root_of c.args.held.now.rows.now c.args.held.now.count c.args.id) c.args.id (keep (root_of c.args.held.now.rows.now c.args.held.now.count) (part c.args.w.now c.args.ids.from c.args.ids.count)) c.args.first.now c.is_root.ensures c.if-is_root.true (omega (arith, c.requires.1)) in
    record { first_after = p.0; value = p.1; before_the_marks = refl }

pub returns : goal.returns
returns c =
    let p = put_rest c.is_root.result (root_of c.args.held.now.rows.now c.args.held.now.count c.args.id) c.args.id _ (keep (root_of c.args.held.now.rows.now c.args.held.now.count) (part c.args.w.now c.args.ids.from c.args.ids.count)) c.args.first.now _ _ c.is_root.ensures c.if-is_root.false (pruned-listed c.args.held.now.rows.now c.args.held.now.count c.args.ids.from c.args.ids.marks c.args.ids.count c.args.w.now _ c.mark_roots.ensures c.args.ids.behind c.requires.0) (c.list_marked.ensures.list_after, c.list_marked.ensures.value) in
    record { first_after = p.0; value = p.1; before_the_marks = c.mark_roots.ensures.front }
