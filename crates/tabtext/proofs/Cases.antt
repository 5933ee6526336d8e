-- Lines of document 01 and of its edges, in two variables, read by computation.
--   readings     what is read of texts
--   good-lines   lines of its example, and the empty stairs line
--   bad-lines    faults of form
use Prim.Native.String.{String}
use mathlib.Core.Path.{◌≡◌, refl}
use mathlib.Core.List.{List, [], ◌∷◌, map}
use Rattle.tabtext.specs.Text.{bytes, TextLine, header, generator, standard, points, end}
use Rattle.tabtext.specs.Readers.{Got, got, bad, read_line}

-- What is read of a text in two variables.
pub readings : List String → List (Got TextLine)
readings texts = map (λ t. read_line 2 (bytes t)) texts

pub good-lines : readings
    ("basis\tgrevlex\t3\t2\n"
    ∷ "poly\t1:0.2\t2:1.0\n"
    ∷ "stairs\t0.0\t0.1\t0.2\n"
    ∷ "stairs\n"
    ∷ "runs\t3\n"
    ∷ "end\t99999\nend"
    ∷ [])
    ≡ got (header (bytes "grevlex") 3 2) []
    ∷ got (generator ((1, 0 ∷ 2 ∷ []) ∷ (2, 1 ∷ 0 ∷ []) ∷ [])) []
    ∷ got (standard ((0 ∷ 0 ∷ []) ∷ (0 ∷ 1 ∷ []) ∷ (0 ∷ 2 ∷ []) ∷ [])) []
    ∷ got (standard []) []
    ∷ got (points 3) []
    ∷ got (end 99999) (bytes "end")
    ∷ []
unfolding readings read_line
good-lines = refl

-- Six digits, a leading zero, a sign, an empty number, no LF, nine letters, a capital letter, no term, one exponent, three exponents, a dot for the colon, a blank, CR before LF.
pub bad-lines : readings
    ("end\t100000\n"
    ∷ "end\t01\n"
    ∷ "end\t+1\n"
    ∷ "end\t\n"
    ∷ "end\t1"
    ∷ "basis\tgrevlexxx\t3\t2\n"
    ∷ "basis\tGrevlex\t3\t2\n"
    ∷ "poly\n"
    ∷ "poly\t1:1\n"
    ∷ "poly\t1:1.1.1\n"
    ∷ "poly\t1.0.2\n"
    ∷ "poly 1:0.2\n"
    ∷ "runs\t3\r\n"
    ∷ "\n"
    ∷ ""
    ∷ [])
    ≡ bad ∷ bad ∷ bad ∷ bad ∷ bad ∷ bad ∷ bad ∷ bad ∷ bad ∷ bad ∷ bad ∷ bad ∷ bad ∷ bad ∷ bad ∷ []
unfolding readings read_line
bad-lines = refl
