-- The texts of a valid pool are short.
use Rattle.std.proofs.Common.{ℕ, zero, suc, ◌^◌, ◌<◌, Bool, true, false, cond, List, [], ◌∷◌, length, Option, Some, None, unwrap_or, slice_get, option_and_then, subst, sym, arith}
use Rattle.std.specs.List.{AllByRecursion}
use Rattle.dj_pool.specs.trusted.Pool.{Constant, Utf8, Hole, takes_two, indexed, constant_at, text_of, text_at, class_text_of, class_name_at, IsConstant, IsPool}

-- the text of the constant, if it is one, has fewer than 65,536 bytes
abbrev IsShort : Option Constant → Type 0
IsShort k = length (unwrap_or (option_and_then text_of k) []) < 2 ^ 16

short_constant : (pool : List Constant) (k : Constant) → IsConstant pool k → IsShort (Some k)
short_constant pool (Utf8 text) h = h.0.0
short_constant pool k h = omega arith

short_at : (two : Bool) (k : Constant) (ks : List Constant) (i : ℕ) → IsShort (Some k) → ((j : ℕ) → IsShort (slice_get ks j)) → IsShort (slice_get (cond two (k ∷ (Hole ∷ ks)) (k ∷ ks)) i)
short_at true k ks zero one more = one
short_at true k ks (suc zero) one more = omega arith
short_at true k ks (suc (suc i)) one more = more i
short_at false k ks zero one more = one
short_at false k ks (suc i) one more = more i

short_from : (pool ks : List Constant) → AllByRecursion (IsConstant pool) ks → (i : ℕ) → IsShort (slice_get (indexed ks) i)
unfolding indexed
short_from pool [] h i = omega arith
short_from pool (k ∷ ks) h i = short_at (takes_two k) k (indexed ks) i (short_constant pool k h.0) (short_from pool ks h.1)

pub text_short : (pool : List Constant) (i : ℕ) → IsPool pool → length (unwrap_or (text_at pool i) []) < 2 ^ 16
text_short pool zero valid = omega arith
text_short pool (suc i) valid = subst (λ (ks : List Constant). IsShort (slice_get ks i)) (sym valid.indexes) (short_from pool valid.constants valid.each i)

short_named : (pool : List Constant) (i : Option ℕ) → IsPool pool → length (unwrap_or (option_and_then (text_at pool) i) []) < 2 ^ 16
short_named pool None valid = omega arith
short_named pool (Some i) valid = text_short pool i valid

pub class_name_short : (pool : List Constant) (i : ℕ) → IsPool pool → length (unwrap_or (class_name_at pool i) []) < 2 ^ 16
class_name_short pool i valid = short_named pool (option_and_then class_text_of (constant_at pool i)) valid
