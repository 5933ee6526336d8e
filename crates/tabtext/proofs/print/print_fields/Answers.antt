-- `print::print_fields` meets its contract. The loop's invariant: the fields from place j on are left, each with a tab before it, and LF.
use mathlib.Core.Path.{◌≡◌, refl}
use mathlib.Core.List.{[], ◌∷◌}
use native.Mathlib.Omega.{arith}
use lib.ListN.{length, get_or}
use Rattle.tabtext.proofs.FieldPrinting.{printing-room, printing-turn, printing-last, printing-short}
use Rattle.tabtext.proofs.Separators.{StandsAt, stands_at, fields-after}
use Rattle.tabtext.proofs.Widths.{fields-most}
use Rattle.tabtext.proofs.Writing.{left-all, left_less, left-none, left-room, put-both}
use Rattle.tabtext.proofs.print.print_fields.Goals.{In-loop-j}
use Rattle.tabtext.proofs.print.print_fields.Goals as goal

pub put_bytes-requires : goal.put_bytes-requires
put_bytes-requires g c =
    let laws = g.met.S.Sink.laws in
    left-room laws c.args.word.now _ (fields-after _ _ _) (left-all laws refl c.requires.1.room)

pub loop-j-init : goal.loop-j-init
loop-j-init g c f prints =
    let laws = g.met.S.Sink.laws in
    record { left = left_less laws c.args.word.now _ (fields-after _ _ _) (left-all laws refl prints.room) c.put_bytes.ensures; short = tt }

-- The element x stands at its place.
stands : (g : _) (c : In-loop-j g) (x : g.row.T.Denot) → x ≡ get_or c.args.items.now c.loop-j.j x → StandsAt c.args.items.now c.loop-j.j x
stands g c x e = stands_at c.args.items.now c.loop-j.j x x e (omega arith)

-- Room for its field and a tab.
room : (g : _) (c : In-loop-j g) (x : g.row.T.Denot) → x ≡ get_or c.args.items.now c.loop-j.j x →
    g.S.Sink.takes c.loop-j.sink (length (9 ∷ c.requires.0.bytes x))
room g c x e = printing-room g.met.S.Sink.laws (c.loop-j.invariant _ c.requires.1) x (stands g c x e)

pub put-requires : goal.put-requires
put-requires g c =
    let r = room g (goal.at.put-requires g c).In-loop-j _ c.index-items-j.is in
    let laws = g.met.S.Sink.laws in
    left-room laws (9 ∷ []) (c.requires.0.bytes c.index-items-j.result) refl (left-all laws refl r)

pub field-requires : goal.field-requires
field-requires g c =
    let r = room g (goal.at.field-requires g c).In-loop-j _ c.index-items-j.is in
    let laws = g.met.S.Sink.laws in
    c.requires.1.asks _ _ (left_less laws (9 ∷ []) (c.requires.0.bytes c.index-items-j.result) refl (left-all laws refl r) c.put.ensures).room

pub loop-j-preserved : goal.loop-j-preserved
loop-j-preserved g c f prints =
    let s = stands g (goal.at.loop-j-preserved g c).In-loop-j _ c.index-items-j.is in
    let laws = g.met.S.Sink.laws in
    let (put, short) = prints.puts _ _ _ c.field.ensures in
    printing-turn laws (c.loop-j.invariant f prints) _ s (omega (arith, short)) (put-both laws _ _ c.put.ensures put)

-- After the fields LF is left.
pub put-requires-2 : goal.put-requires-2
put-requires-2 g c = (printing-last g.met.S.Sink.laws (c.loop-j.invariant _ c.requires.1) (omega arith)).room

pub returns : goal.returns
returns g c f prints =
    let laws = g.met.S.Sink.laws in
    let l = c.loop-j.invariant f prints in
    let last = left_less laws _ [] refl (printing-last laws l (omega arith)) c.put-2.ensures in
    (left-none laws refl last, fields-most f.bytes c.args.word.now _ c.args.items.now (printing-short laws l (omega arith)))
