-- The loop of `enumerate`.
--   Kept                                               the parts of the state have their sizes, and their entries are below p
--   Enumerating                                        what holds at the loop's head
--   VisitedOnce                                        what holds after a visit
--   enumerating-start, enumerating-stop
--   standard-fits                                      there is room for the standard monomials
--   next-found, next-exponents, next-few, next-lines   what is known of the monomial to visit
--   rows-room                                          where it has a pivot, there is room for its row
--   after-standard, after_line                         the two outcomes of a visit
--   onward                                             the next monomial
use mathlib.Core.Path.{◌≡◌, sym, ◌∙◌, ap, subst}
use mathlib.Core.List.{List, [], ◌∷◌, ◌++◌}
use Prim.Native.Nat.{ℕ, suc, ◌+◌, ◌*◌, ◌≤◌, ◌<◌}
use native.Mathlib.Nat.{mul-le-mul_left}
use native.Mathlib.Omega.{arith}
use lib.ListN.{length, length-append, length-set}
use Rattle.std.specs.Prelude.{Option, Some, None, option_map, IfSome}
use Rattle.arrayvec.specs.ArrayVec.{ArrayVec}
use Rattle.lists.specs.Lists.{Each}
use Rattle.lists.proofs.EachElement.{each_last}
use Rattle.residue.specs.Prime.{Prime}
use Rattle.residue.specs.Field.{ZMod}
use Rattle.residue.specs.declared.reciprocals.Reciprocals.{Reciprocals}
use Rattle.residue.proofs.ResidueField.{residue-field}
use Rattle.monomial.specs.Sizes.{most_variables}
use Rattle.monomial.specs.Rows.{Row, one, exponent}
use Rattle.monomial.specs.Ordering.{Lex}
use Rattle.monomial.specs.Represented.{row, monomial, most_entry}
use Rattle.monomial.specs.Ranks.{rank_of, Short}
use Rattle.monomial.specs.declared.Monomial.{Monomial}
use Rattle.groebner.specs.Lines.{Line}
use Rattle.groebner.proofs.Coordinates.{sequences}
use Rattle.groebner.proofs.Seen.{Seen}
use Rattle.groebner.proofs.Successors.{UpTo}
use Rattle.lines.specs.Sizes.{most_standard, most_lines}
use Rattle.lines.specs.Bases.{Padded}
use Rattle.lines.specs.declared.line.LineTerm.{LineTerm}
use Rattle.staircase.specs.Leads.{rows_of, lead_monomials, multiple, FoundNext}
use Rattle.staircase.specs.Listed.{listed}
use Rattle.staircase.proofs.PaddedRows.{held-row, padded, one-held}
use Rattle.coordinates.specs.Vectors.{Below, FullLength, FirstPlace}
use Rattle.coordinates.specs.declared.Coordinates.{Coordinates}
use Rattle.multiplication.specs.declared.rows.Tables.{Tables}
use Rattle.fglm.specs.RowState.{SoundRows}
use Rattle.fglm.specs.Elimination.{LeftOf}
use Rattle.fglm.specs.Steps.{Dependence, Scaled, Inserted}
use Rattle.fglm.specs.ImageRows.{DivisorsFound, ImageRow}
use Rattle.fglm.specs.WrittenLines.{WrittenLine}
use Rattle.fglm.specs.Found.{found_lines, found_standard, PrintableLine}
use Rattle.fglm.specs.Enumerable.{Enumerable, EnumerationInput, Enumerated}
use Rattle.fglm.specs.declared.elimination.AugmentedVector.{AugmentedVector}
use Rattle.fglm.specs.declared.elimination.Reduced.{Reduced}
use Rattle.fglm.specs.declared.elimination.Rows.{Rows}
use Rattle.fglm.specs.declared.lex_basis.LexBasis.{LexBasis}
use Rattle.fglm.proofs.Adding.{answer-left, answer-dependent, rows-inserted, answer-inserted}
use Rattle.fglm.proofs.Promise.{enough-room, sound_none}
use Rattle.fglm.proofs.PushedMonomials.{pushed-count}
use Rattle.fglm.proofs.StandardRanks.{StandardRanked, ranked-none, ranked-more}
use Rattle.fglm.proofs.Visits.{Setting, L, Stage, Progressed, progressed-none, to-visit-found, visit-exponents, visit-few, visit-lines}
use Rattle.fglm.proofs.Visits.{visit-image, visit-line, visit-standard, visit-onward, visits-end}

-- The parts of the state have their sizes.
pub record Kept (p n : ℕ) (rs : Rows) (images : List Coordinates) (ranks : List ℕ) (gs : List (ArrayVec LineTerm)) (standard ls : List Monomial) : Type 0 where
  pub lines : length ls ≤ most_lines
  pub line_count : length gs ≡ length ls
  pub printable : Each (λ (g : ArrayVec LineTerm). PrintableLine p n g.items) gs
  pub sound : SoundRows p rs
  pub rows_size : length rs.rows ≡ most_standard
  pub used : rs.used ≡ length standard
  pub images_size : length images ≡ length standard
  pub images_below : Each (Below p) images
  pub ranked : StandardRanked n standard ranks
  pub standard_held : Each (Padded n) standard

module _ (t : Reciprocals) (n : ℕ) (s : List ℕ) (l : List Monomial) (tables : Tables) where
  -- The state stands for lines of the theory, and r is to be visited next, if there is one.
  pub record Enumerating (rs : Rows) (images : List Coordinates) (ranks : List ℕ) (gs : List (ArrayVec LineTerm)) (standard ls : List Monomial) (r : Option Monomial) : Type 0 where
    pub given : EnumerationInput t n s l tables
    pub size : length (listed n l) ≡ length l
    pub kept : Kept t.field.p n rs images ranks gs standard ls
    pub held : IfSome r (Padded n)
    pub stage : (𝓢 : Setting t n s l tables)
        → (H : List (Line (ZMod t.field.p) (Row n))) × Progressed 𝓢 rs images standard ls gs H × Stage 𝓢 H (listed n standard) (option_map (row n) r)

  -- m is visited, after as many others as are counted.
  pub record VisitedOnce (before : ℕ) (rs : Rows) (images : List Coordinates) (ranks : List ℕ) (gs : List (ArrayVec LineTerm)) (standard ls : List Monomial) (m : Monomial) : Type 0 where
    pub given : EnumerationInput t n s l tables
    pub size : length (listed n l) ≡ length l
    pub kept : Kept t.field.p n rs images ranks gs standard ls
    pub count : length ls + length standard ≡ suc before
    pub seen : (𝓢 : Setting t n s l tables)
        → (H : List (Line (ZMod t.field.p) (Row n))) × Progressed 𝓢 rs images standard ls gs H
        × Seen n (sequences (residue-field t.field.p 𝓢.prime).ring) (L 𝓢) (Lex n s) (UpTo (Lex n s) (row n m)) H (listed n standard)

module _ {t : Reciprocals} {n : ℕ} {s : List ℕ} {l : List Monomial} {tables : Tables} where
  module _ (given : EnumerationInput t n s l tables) (size : length (listed n l) ≡ length l) where
    setting : (prime : Prime t.field.p) (G : List (Line (ZMod t.field.p) (Row n))) → Enumerable t.field.p prime n l tables G → Setting t n s l tables
    setting prime G en = record { prime = prime; ranking = given.ranking; lines = G; enumerable = en; size = size }

    empty-start : {rs : Rows} {m : Monomial}
        → rs.used ≡ 0 → length rs.rows ≡ most_standard
        → m ≡ monomial most_variables (one most_variables) → Enumerating t n s l tables rs [] [] [] [] [] (Some m)
    empty-start {rs} {m} e r q = record {
      given = given;
      size = size;
      kept = record {
        lines = omega arith;
        line_count = omega arith;
        printable = tt;
        sound = sound_none t.field.p rs e;
        rows_size = r;
        used = e;
        images_size = omega arith;
        images_below = tt;
        ranked = ranked-none n;
        standard_held = tt;
      };
      held = padded n (one n) (q ∙ one-held n given.variables.most);
      stage = λ 𝓢. let w = progressed-none 𝓢 rs e in
          ([], w.0, subst (λ x. Stage 𝓢 [] (listed n []) (Some x)) (sym (held-row n (one n) (q ∙ one-held n given.variables.most))) w.1);
    }

    pub enumerating-start : {rs : Rows} {images : List Coordinates} {ranks : List ℕ} {gs : List (ArrayVec LineTerm)} {standard ls : List Monomial} {m : Monomial}
        → images ≡ [] → ranks ≡ [] → gs ≡ [] → standard ≡ [] → ls ≡ [] → rs.used ≡ 0 → length rs.rows ≡ most_standard
        → m ≡ monomial most_variables (one most_variables) → Enumerating t n s l tables rs images ranks gs standard ls (Some m)
    enumerating-start a b c d f e r q = rw (a, b, c, d, f) (empty-start e r q)

  module _ {rs : Rows} {images : List Coordinates} {ranks : List ℕ} {gs : List (ArrayVec LineTerm)} {standard ls : List Monomial} where
    pub standard-fits : {r : Option Monomial} → Enumerating t n s l tables rs images ranks gs standard ls r → length standard ≤ most_standard
    standard-fits e = omega (arith, e.kept.used, e.kept.sound.size)

    module _ {m : Monomial} (e : Enumerating t n s l tables rs images ranks gs standard ls (Some m)) where
      -- The lines that are given, and their prime.
      first : Setting t n s l tables
      first = let prime = t.field.prime.prime in let (G, en) = e.given.lines prime in setting e.given e.size prime G en

      pub next-found : DivisorsFound n standard (row n m)
      next-found = let (H, q, v) = e.stage first in
          to-visit-found first q v

      pub next-exponents : (i : ℕ) → i < n → exponent n (row n m) i < most_entry
      next-exponents i k = let (H, q, v) = e.stage first in
          omega (arith, standard-fits e, visit-exponents first q v i k)

      pub next-few : length ls + length standard ≤ n * most_standard
      next-few = let (H, q, v) = e.stage first in
          omega (arith, visit-few first q v, mul-le-mul_left n (standard-fits e))

      pub next-lines : length ls < most_lines
      next-lines = let (H, q, v) = e.stage first in
          omega (arith, visit-lines first q v e.given.variables.some (standard-fits e), e.given.variables.most)

      module _ {w : Coordinates} (whole : FullLength w) (i : ImageRow t.field.p n m images standard tables l w) where
        module _ {x : AugmentedVector} (left : LeftOf t.field.p rs w x) where
          module _ {k : ℕ} (pivot : FirstPlace x.vector (Some k)) where
            pub rows-room : rs.used < most_standard
            unfolding first setting
            rows-room = let prime = t.field.prime.prime in let (H, q, v) = e.stage first in
                enough-room t prime (L first) rs (listed n standard) q.echelon q.used (row n m) w
                (visit-image first q whole i).1 _ (answer-left t left prime (Some k) pivot)

            pub after-standard : {q : Reduced} → Scaled t x k q → {rs' : Rows} → Inserted t.field.p q rs rs'
                → {u : ℕ} → (u ≡ rank_of n (row n m)) × Short n (row n m)
                → VisitedOnce t n s l tables (length ls + length standard) rs' (images ++ (w ∷ [])) (ranks ++ (u ∷ [])) gs (standard ++ (m ∷ [])) ls m
            after-standard {q} made {rs'} inserted {u} rank = record {
              given = e.given;
              size = e.size;
              kept = record {
                lines = e.kept.lines;
                line_count = e.kept.line_count;
                printable = e.kept.printable;
                sound = rows-inserted t left pivot made inserted e.kept.rows_size e.kept.sound rows-room;
                rows_size = ap (λ r. length r.rows) inserted.is ∙ length-set inserted.others.rows rs.used q ∙ inserted.cleared.size
                    ∙ e.kept.rows_size;
                used = omega (arith, used, pushed-count standard m, e.kept.used);
                images_size = omega (arith, length-append images (w ∷ []), pushed-count standard m, e.kept.images_size);
                images_below = each_last (Below t.field.p) images e.kept.images_below i.below;
                ranked = ranked-more m e.kept.ranked rank;
                standard_held = each_last (Padded n) standard e.kept.standard_held e.held;
              };
              count = omega (arith, pushed-count standard m);
              seen = λ 𝓢. let (H, o, v) = e.stage 𝓢 in
                  let (normal, image) = visit-image 𝓢 o whole i in
                  let r = visit-standard 𝓢 o m v w image rs' (answer-inserted t left pivot made inserted e.kept.rows_size e.kept.sound rows-room 𝓢.prime) used e.kept.images_size normal in
                  (H, r.0, r.1);
            }
              where
                used : rs'.used ≡ rs.used + 1
                used = ap (λ r. r.used) inserted.is

          pub after_line : FirstPlace x.vector None → {c : Coordinates} → Dependence t.field.p x c → {g : ArrayVec LineTerm} → WrittenLine t.field.p n m c standard g.items
              → VisitedOnce t n s l tables (length ls + length standard) rs images ranks (gs ++ (g ∷ [])) standard (ls ++ (m ∷ [])) m
          after_line none {c} opposite {g} written = record {
            given = e.given;
            size = e.size;
            kept = record {
              lines = omega (arith, next-lines, pushed-count ls m);
              line_count = omega (arith, length-append gs (g ∷ []), pushed-count ls m, e.kept.line_count);
              printable = each_last _ gs e.kept.printable written.printable;
              sound = e.kept.sound;
              rows_size = e.kept.rows_size;
              used = e.kept.used;
              images_size = e.kept.images_size;
              images_below = e.kept.images_below;
              ranked = e.kept.ranked;
              standard_held = e.kept.standard_held;
            };
            count = omega (arith, pushed-count ls m);
            seen = λ 𝓢. let (H, q, v) = e.stage 𝓢 in
                visit-line 𝓢 q m v w (visit-image 𝓢 q whole i).1 c (answer-dependent t left none opposite 𝓢.prime) g written;
          }

    pub onward : {b : ℕ} {m : Monomial} → VisitedOnce t n s l tables b rs images ranks gs standard ls m → {r : Option Monomial}
        → FoundNext n s (multiple n (lead_monomials n ls)) (row n m) r → Enumerating t n s l tables rs images ranks gs standard ls r
    onward {m = m} v {r} next = record {
      given = v.given;
      size = v.size;
      kept = v.kept;
      held = next.padded;
      stage = λ 𝓢. let (H, q, u) = v.seen 𝓢 in (H, q, visit-onward 𝓢 q u (option_map (row n) r) next.is_next);
    }

  pub enumerating-stop : {rs : Rows} {images : List Coordinates} {ranks : List ℕ} {ls : List Monomial} {r : LexBasis} → Enumerating t n s l tables rs images ranks r.lines.items r.standard.items ls None
      → Enumerated t n s l tables r
  unfolding found_lines found_standard rows_of setting
  enumerating-stop v = record {
    printable = record { lines = omega (arith, v.kept.lines, v.kept.line_count); each = v.kept.printable; count = standard-fits v; standard = v.kept.standard_held };
    outcome = λ prime G en. let 𝓢 = setting v.given v.size prime G en in let (H, q, u) = v.stage 𝓢 in
        visits-end 𝓢 q u;
  }
