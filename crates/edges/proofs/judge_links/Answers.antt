-- `edges::judge_links` meets its contract: each need is arithmetic, a law that is imported, or what a callee promised.
use Prim.Native.Nat.{◌<◌}
use mathlib.Core.Path.{refl, ◌∙◌}
use native.Mathlib.Omega.{arith}
use Rattle.edges.proofs.Told.{links-start, links_end, links-refused, links-next, links-told, row_room, parents-fit, row_fits, next_start}
use borrow.Author.Rules.{rules}
use Rattle.edges.proofs.judge_links.Goals as goal

pub loop-i-init : goal.loop-i-init
loop-i-init c =
    (search rules, refl, links-start _ _ _ _ _)

pub judge_row-requires : goal.judge_row-requires
judge_row-requires c =
    let below : c.loop-i.i < c.args.n = omega arith in
    record { rows_in_table = omega (arith, c.requires.tabled.size); i_lt_n = below; ascends = c.requires.tabled.up; edges_in_table = row_room c.args.table.now c.args.edges.now c.args.n c.requires.tabled c.loop-i.i c.loop-i.at c.loop-i.invariant.1 below }

pub returns-in_err-judge_row : goal.returns-in_err-judge_row
returns-in_err-judge_row c =
    let below : c.loop-i.i < c.args.n = omega arith in
    grind (
      arith,
      links-refused c.args.table.now c.args.edges.now c.args.cpairs.now c.args.ppairs.now c.args.n c.loop-i.i c.loop-i.at c.loop-i.invariant.2 below _ c.judge_row.ensures _ c.in_err-judge_row.was
          ∙ links-told c.args.table.now c.args.edges.now c.args.n c.requires.tabled c.args.cpairs.now c.args.ppairs.now c.args.kc c.args.kp c.requires.children_told c.requires.parents_told,
    )

pub overflow_add-at-in-loop-i : goal.overflow_add-at-in-loop-i
overflow_add-at-in-loop-i c =
    let below : c.loop-i.i < c.args.n = omega arith in parents-fit c.args.table.now c.args.edges.now c.args.n c.requires.tabled c.loop-i.i c.loop-i.at c.loop-i.invariant.1 below (omega arith)

pub overflow_add-at-in-loop-i-3 : goal.overflow_add-at-in-loop-i-3
overflow_add-at-in-loop-i-3 c =
    let below : c.loop-i.i < c.args.n = omega arith in row_fits c.args.table.now c.args.edges.now c.args.n c.requires.tabled c.loop-i.i c.loop-i.at c.loop-i.invariant.1 below (omega arith)

pub loop-i-preserved : goal.loop-i-preserved
loop-i-preserved c =
    let below : c.loop-i.i < c.args.n = omega arith in
    (omega arith, next_start c.args.table.now c.args.edges.now c.args.n c.requires.tabled c.loop-i.i c.loop-i.at c.loop-i.invariant.1 below, links-next c.args.table.now c.args.edges.now c.args.cpairs.now c.args.ppairs.now c.args.n c.loop-i.i c.loop-i.at c.loop-i.invariant.2 below _ c.judge_row.ensures c.in_ok-judge_row.was)

pub returns : goal.returns
returns c =
    links_end c.args.table.now c.args.edges.now c.args.cpairs.now c.args.ppairs.now c.args.n c.loop-i.i c.loop-i.at c.loop-i.invariant.2 (omega arith)
    ∙ links-told c.args.table.now c.args.edges.now c.args.n c.requires.tabled c.args.cpairs.now c.args.ppairs.now c.args.kc c.args.kp c.requires.children_told c.requires.parents_told
