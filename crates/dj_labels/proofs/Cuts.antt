-- Where instructions stand: in one way at most, each after the one before it, and one more.
use Rattle.std.proofs.Common.{◌≡◌, ℕ, zero, suc, ◌+◌, ◌<◌, ◌≤◌, List, [], ◌∷◌, ◌++◌, length, slice_get, Some, refl, sym, ap, subst, ◌∙◌, arith}
use Rattle.std.specs.List.{AllByRecursion}
use Rattle.std.proofs.lemmas.Option.{same_Some, none-some}
use Rattle.std.proofs.lemmas.List.Elements.{All-from_recursion}
use Rattle.dj_ops.specs.declared.instruction.Instr.{Instr}
use Rattle.dj_ops.specs.trusted.Instructions.{Stands}
use Rattle.dj_ops.proofs.Whole.{one_at}
use Rattle.dj_labels.specs.trusted.Labels.{first_of, StandUpTo, IsCut}
use Rattle.dj_labels.specs.Passes.{IsRising}

-- ---- in one way at most

-- no instruction stands at the address
abbrev pub IsEnd : List ℕ → ℕ → Type 0
IsEnd code at = (instr : Instr) (next : ℕ) → Stands code at instr next → ⊥

-- past the code's last byte none stands
pub whole_ends : (code : List ℕ) → IsEnd code (length code)
whole_ends code instr next s = omega (arith, s.later, s.within)

pub record SameCut (s t : List ℕ) (a b : List Instr) (m n : ℕ) : Type 0 where
  pub starts : s ≡ t
  pub instrs : a ≡ b
  pub ends : m ≡ n

one_way : (code : List ℕ) (s t : List ℕ) (a b : List Instr) (m n : ℕ) → IsEnd code m → IsEnd code n → first_of s m ≡ first_of t n → StandUpTo code s a m → StandUpTo code t b n → SameCut s t a b m n
one_way code [] t (i ∷ is) b m n em en f h k = absurd h
one_way code (x ∷ xs) t [] b m n em en f h k = absurd h
one_way code s [] a (j ∷ js) m n em en f h k = absurd k
one_way code s (y ∷ ys) a [] m n em en f h k = absurd k
one_way code [] [] [] [] m n em en f h k = record { starts = refl; instrs = refl; ends = f }
one_way code [] (y ∷ ys) [] (j ∷ js) m n em en f h k = absurd (em j (first_of ys n) (subst (λ (z : ℕ). Stands code z j (first_of ys n)) (sym f) k.0))
one_way code (x ∷ xs) [] (i ∷ is) [] m n em en f h k = absurd (en i (first_of xs m) (subst (λ (z : ℕ). Stands code z i (first_of xs m)) f h.0))
one_way code (x ∷ xs) (y ∷ ys) (i ∷ is) (j ∷ js) m n em en f h k =
    let here = one_at code x (first_of xs m) (first_of ys n) i j h.0 (subst (λ (z : ℕ). Stands code z j (first_of ys n)) (sym f) k.0) in
    let rest = one_way code xs ys is js m n em en here.1 h.1 k.1 in
    let same : i ≡ j = here.0 in
    let starts : xs ≡ ys = rest.starts in
    let instrs : is ≡ js = rest.instrs in
    record { starts = cc; instrs = cc; ends = rest.ends }

pub one_cut : (code : List ℕ) (s t : List ℕ) (a b : List Instr) (m n : ℕ) → IsEnd code m → IsEnd code n → IsCut code s a m → IsCut code t b n → SameCut s t a b m n
one_cut code s t a b m n em en h k = one_way code s t a b m n em en (h.first ∙ sym k.first) h.each k.each

-- ---- as many starts as instructions

pub as_many : (code : List ℕ) (starts : List ℕ) (instrs : List Instr) (end : ℕ) → StandUpTo code starts instrs end → length starts ≡ length instrs
as_many code [] [] end h = refl
as_many code [] (i ∷ is) end h = absurd h
as_many code (x ∷ xs) [] end h = absurd h
as_many code (x ∷ xs) (i ∷ is) end h = ap suc (as_many code xs is end h.1)

-- ---- each after the one before it

-- what is below the first start is below all of them, and below the end
above : (code : List ℕ) (starts : List ℕ) (instrs : List Instr) (end m : ℕ) → m < first_of starts end → StandUpTo code starts instrs end → AllByRecursion (λ start. m < start) starts × (m < end)
above code [] [] end m lt h = (tt, lt)
above code [] (i ∷ is) end m lt h = absurd h
above code (x ∷ xs) [] end m lt h = absurd h
above code (x ∷ xs) (i ∷ is) end m lt h =
    let rest = above code xs is end m (omega (arith, lt, h.0.later)) h.1 in
    ((lt, rest.0), rest.1)

rising : (code : List ℕ) (starts : List ℕ) (instrs : List Instr) (end : ℕ) → StandUpTo code starts instrs end → IsRising starts
rising code [] [] end h i j d lt within = absurd (omega (arith, within))
rising code [] (instr ∷ is) end h i j d lt within = absurd h
rising code (x ∷ xs) [] end h i j d lt within = absurd h
rising code (x ∷ xs) (instr ∷ is) end h zero zero d lt within = absurd (omega (arith, lt))
rising code (x ∷ xs) (instr ∷ is) end h zero (suc j) d lt within = All-from_recursion (λ start. x < start) xs (above code xs is end x h.0.later h.1).0 j d (omega (arith, within))
rising code (x ∷ xs) (instr ∷ is) end h (suc i) zero d lt within = absurd (omega (arith, lt))
rising code (x ∷ xs) (instr ∷ is) end h (suc i) (suc j) d lt within = rising code xs is end h.1 i j d (omega (arith, lt)) (omega (arith, within))

below : (code : List ℕ) (starts : List ℕ) (instrs : List Instr) (end : ℕ) → StandUpTo code starts instrs end → AllByRecursion (λ start. start < end) starts
below code [] [] end h = tt
below code [] (i ∷ is) end h = absurd h
below code (x ∷ xs) [] end h = absurd h
below code (x ∷ xs) (i ∷ is) end h = ((above code xs is end x h.0.later h.1).1, below code xs is end h.1)

pub starts_rise : (code : List ℕ) (starts : List ℕ) (instrs : List Instr) (end : ℕ) → IsCut code starts instrs end → IsRising starts
starts_rise code starts instrs end cut = rising code starts instrs end cut.each

pub starts_within : (code : List ℕ) (starts : List ℕ) (instrs : List Instr) (end : ℕ) → IsCut code starts instrs end → AllByRecursion (λ start. start < end) starts
starts_within code starts instrs end cut = below code starts instrs end cut.each

-- each start takes a byte at least
counted : (code : List ℕ) (starts : List ℕ) (instrs : List Instr) (end : ℕ) → StandUpTo code starts instrs end → first_of starts end + length starts ≤ end
counted code [] [] end h = omega arith
counted code [] (i ∷ is) end h = absurd h
counted code (x ∷ xs) [] end h = absurd h
counted code (x ∷ xs) (i ∷ is) end h = let rest = counted code xs is end h.1 in omega (arith, rest, h.0.later)

pub few_starts : (code : List ℕ) (starts : List ℕ) (instrs : List Instr) (end : ℕ) → IsCut code starts instrs end → length starts ≤ end
few_starts code starts instrs end cut = let all = counted code starts instrs end cut.each in omega (arith, all)

-- ---- one more

-- after the last of them one more stands
more : (code : List ℕ) (starts : List ℕ) (instrs : List Instr) (at next : ℕ) (instr : Instr) → StandUpTo code starts instrs at → Stands code at instr next → StandUpTo code (starts ++ at ∷ []) (instrs ++ instr ∷ []) next × (first_of (starts ++ at ∷ []) next ≡ first_of starts at)
more code [] [] at next instr h s = ((s, tt), refl)
more code [] (i ∷ is) at next instr h s = absurd h
more code (x ∷ xs) [] at next instr h s = absurd h
more code (x ∷ xs) (i ∷ is) at next instr h s =
    let rest = more code xs is at next instr h.1 s in
    ((subst (λ (n : ℕ). Stands code x i n) (sym rest.1) h.0, rest.0), refl)

pub one_more : (code : List ℕ) (starts : List ℕ) (instrs : List Instr) (at next : ℕ) (instr : Instr) → IsCut code starts instrs at → Stands code at instr next → IsCut code (starts ++ at ∷ []) (instrs ++ instr ∷ []) next
one_more code starts instrs at next instr cut s =
    let m = more code starts instrs at next instr cut.each s in
    record { first = m.1 ∙ cut.first; each = m.0 }

-- ---- what stands at a start

pub record StandsIn (code : List ℕ) (instrs : List Instr) (number at : ℕ) : Type 0 where
  pub instr : Instr
  pub next : ℕ
  pub found : slice_get instrs number ≡ Some instr
  pub stands : Stands code at instr next

stands_in : (code : List ℕ) (starts : List ℕ) (instrs : List Instr) (end number at : ℕ) → StandUpTo code starts instrs end → slice_get starts number ≡ Some at → StandsIn code instrs number at
stands_in code [] instrs end number at h found = absurd (none-some at found)
stands_in code (x ∷ xs) [] end number at h found = absurd h
stands_in code (x ∷ xs) (i ∷ is) end zero at h found = record { instr = i; next = first_of xs end; found = refl; stands = subst (λ (z : ℕ). Stands code z i (first_of xs end)) (same_Some x at found) h.0 }
stands_in code (x ∷ xs) (i ∷ is) end (suc number) at h found =
    let rest = stands_in code xs is end number at h.1 found in
    record { instr = rest.instr; next = rest.next; found = rest.found; stands = rest.stands }

pub one_stands : (code : List ℕ) (starts : List ℕ) (instrs : List Instr) (end number at : ℕ) → IsCut code starts instrs end → slice_get starts number ≡ Some at → StandsIn code instrs number at
one_stands code starts instrs end number at cut found = stands_in code starts instrs end number at cut.each found
