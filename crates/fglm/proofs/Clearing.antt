-- The loop of `insert`: the rows are cleared at the pivot of q, one a turn.
--   Clearing p q s₀ s i   the first i rows of s are those of s₀ cleared at the pivot of q, the others those of s₀
--   clearing-start        before the first turn
--   clearing-row          row i is not cleared yet
--   clearing-turn         a turn clears row i
--   clearing-skip         or finds it cleared
--   clearing-is           so it is of what is equal to s
--   clearing-stop         after the last turn
use mathlib.Core.Path.{◌≡◌, refl, sym, subst}
use mathlib.Core.List.{List}
use mathlib.Core.Logic.{⊎_elim}
use Prim.Native.Nat.{ℕ, ◌+◌, ◌<◌, ◌≤◌}
use native.Mathlib.Nat.{eq-or-lt_of_le}
use native.Mathlib.Omega.{arith}
use lib.ListN.{length, get_or, set}
use Rattle.lists.proofs.Storing.{FilledTo, stored-none, stored_more}
use Rattle.fglm.specs.RowState.{no_row, row_at}
use Rattle.fglm.specs.Steps.{ClearedRow, ClearedRows}
use Rattle.fglm.specs.declared.elimination.Reduced.{Reduced}
use Rattle.fglm.specs.declared.elimination.Rows.{Rows}

-- Element i is as P says, without a store.
stored_same : {A : Type 0} (P : ℕ → A → Type 0) (d : A) (l₀ l : List A) (i : ℕ) → FilledTo P d l₀ l i → P i (get_or l i d) → FilledTo P d l₀ l (i + 1)
stored_same P d l₀ l i s e = record {
  size = s.size;
  stored = λ k m. ⊎_elim (λ q. subst (λ j. P j (get_or l j d)) (sym q) e) (s.stored k) (eq-or-lt_of_le (omega arith));
  kept = λ k m. s.kept k (omega arith);
}

pub record Clearing (p : ℕ) (q : Reduced) (s₀ s : Rows) (i : ℕ) : Type 0 where
  pub used : s.used ≡ s₀.used
  pub within : i ≤ s₀.used
  pub rows : FilledTo (λ k r. ClearedRow p q (row_at s₀ k) r) no_row s₀.rows s.rows i

pub clearing-is : {p : ℕ} {q : Reduced} {s₀ s r : Rows} {i : ℕ} → r ≡ s → Clearing p q s₀ s i → Clearing p q s₀ r i
clearing-is {p} {q} {s₀} {i = i} e c = subst (λ z. Clearing p q s₀ z i) (sym e) c

module _ {p : ℕ} {q : Reduced} {s₀ : Rows} where
  pub clearing-start : Clearing p q s₀ s₀ 0
  clearing-start = record { used = refl; within = omega arith; rows = stored-none _ _ _ }

  module _ {s : Rows} {i : ℕ} (clearing : Clearing p q s₀ s i) where
    -- Row i is not cleared yet.
    pub clearing-row : row_at s i ≡ row_at s₀ i
    clearing-row = clearing.rows.kept i (omega arith)

    pub clearing-turn : {r : Reduced} → i < s₀.used → s₀.used ≤ length s₀.rows → ClearedRow p q (row_at s i) r
        → Clearing p q s₀ (record { used = s.used; rows = set s.rows i r }) (i + 1)
    clearing-turn {r} l m e = record {
      used = clearing.used;
      within = omega arith;
      rows = stored_more _ _ _ _ i r clearing.rows (omega arith) (subst (λ x. ClearedRow p q x r) clearing-row e);
    }

    pub clearing-skip : i < s₀.used → ClearedRow p q (row_at s i) (row_at s i) → Clearing p q s₀ s (i + 1)
    clearing-skip l e = record {
      used = clearing.used;
      within = omega arith;
      rows = stored_same _ _ _ _ i clearing.rows (subst (λ x. ClearedRow p q x (row_at s i)) clearing-row e);
    }

    pub clearing-stop : s₀.used ≤ i → ClearedRows p q s₀ s
    clearing-stop l = record { used = clearing.used; size = clearing.rows.size; rows = λ k m. clearing.rows.stored k (omega arith) }
