-- `Front::put_bytes` meets its contract.
use Prim.Native.Nat.{ℕ, ◌+◌, ◌-◌, ◌≤◌}
use mathlib.Core.Path.{◌≡◌, sym}
use mathlib.Core.List.{append_assoc}
use native.Mathlib.Nat.{add-sub_cancel_left}
use native.Mathlib.Omega.{arith}
use lib.ListN.{length}
use lib.Seq.{sets, sets-eq, drop-drop}
use borrow.Rule.Slice.PartMut.{put_mid}
use Rattle.std.specs.Borrow.{MutBor}
use Rattle.lists.specs.Lists.{Bytes}
use Rattle.tabtext.specs.declared.sink.Front.{Front}
use Rattle.tabtext.proofs.sink.FrontSink.put_bytes.Goals as goal

-- What a copy to a part of a slice leaves.
copied : (l bs now : Bytes) (at : ℕ) → at + length bs ≤ length l → now ≡ bs → put_mid at (at + length bs - at) l now ≡ sets l at bs
copied l bs now at h e = rw (add-sub_cancel_left at (length bs), drop-drop (length bs) at l, e) (sym (rw append_assoc at (sets-eq bs l at h)))

-- The same slice, with an equal place.
front-at : (l : MutBor Bytes) {i j : ℕ} → i ≡ j → ◌≡◌ {A = Front} record { out = l; at = i } record { out = l; at = j }
front-at l e = rw e

pub returns : goal.returns
returns c = let s = c.args.self.now in
    rw (copied s.out.now c.args.bytes.now c.copy_from_slice.new.self s.at c.requires c.copy_from_slice.ensures.after) (front-at _ (omega arith))
