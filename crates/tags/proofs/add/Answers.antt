-- The way of the name is free or comes to a node of that name; where it is free, three cells are put.
use Prim.Native.Nat.{◌-◌}
use mathlib.Core.Path.{◌≡◌, sym, ◌∙◌}
use native.Mathlib.Omega.{arith}
use Rattle.octets.specs.Bytes.{part}
use Rattle.std.specs.Prelude.{Some}
use Rattle.tags.specs.WorkingTree.{way}
use Rattle.tags.proofs.Trees.{Slot, free-slot, tree-full}
use Rattle.tags.proofs.add.Goals as goal

-- the way of the name is free, and ends at a free cell
free : (c : goal.After-put_cell-arg-1) → way c.args.s.now c.args.t.now (part c.args.s.now c.args.j (c.args.e - c.args.j)) ≡ Some c.in-Some.x
free c = sym c.place.ensures ∙ c.in-Some.is

slot : (c : goal.After-put_cell-arg-1) → Slot c.args.t.now c.args.n c.in-Some.x
slot c = free-slot c.args.s.now c.args.t.now (part c.args.s.now c.args.j (c.args.e - c.args.j)) c.args.n c.requires.name_tree c.in-Some.x (free c)

pub place-requires : goal.place-requires
place-requires c = tree-full c.args.s.now c.args.t.now c.args.n c.requires.name_tree

pub put_cell-requires : goal.put_cell-requires
put_cell-requires c =
    let sl = slot c in
    record { x_lt_cells = omega arith; v_bound = omega arith }

pub returns : goal.returns
returns c =
    record { cell = c.in-Some.x; free = sym c.place.ensures ∙ c.in-Some.is; made = rw (c.put_cell-3.ensures, c.put_cell-2.ensures, c.put_cell.ensures) }

pub returns-in_default : goal.returns-in_default
returns-in_default c = sym c.place.ensures ∙ c.in_default.is
