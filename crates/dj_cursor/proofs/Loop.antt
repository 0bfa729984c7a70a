-- Reading parts one after the other, as a loop does.
use Rattle.std.proofs.Common.{◌≡◌, ℕ, Bool, suc, ◌-◌, ◌+◌, ◌≤◌, ◌<◌, List, [], ◌∷◌, ◌++◌, Result, Ok, Err, refl, sym, ap, subst, ◌∙◌, append_assoc, arith}
use Rattle.std.proofs.lemmas.List.{append-nil}
use Rattle.dj_cursor.specs.Steps.{◌>>=◌, Fails}
use Rattle.dj_cursor.specs.Reading.{Cursor, many_at}
use Rattle.dj_cursor.proofs.Steps.{fails_then}

-- what was read before, and what is still read
abbrev pub with_prefix : {A E : Type 0} → List A → Result (List A × Cursor) E → Result (List A × Cursor) E
with_prefix prefix read = read >>= λ x. Ok (prefix ++ x.0, x.1)

pub with_prefix-next : {A E : Type 0} (prefix : List A) (n : A) (read : Result (List A × Cursor) E) → with_prefix prefix (read >>= λ x. Ok (n ∷ x.0, x.1)) ≡ with_prefix (prefix ++ n ∷ []) read
with_prefix-next prefix n (Ok x) = ap (λ ns. Ok (ns, x.1)) (sym (append_assoc prefix (n ∷ []) x.0))
with_prefix-next prefix n (Err f) = refl

-- a part more was read
pub goes_on : {A E : Type 0} (part : Cursor → Result (A × Cursor) E) (prefix : List A) (count i : ℕ) (c : Cursor) (n : A) (after : Cursor) (total : Result (List A × Cursor) E) → i < count → part c ≡ Ok (n, after)
    → with_prefix prefix (many_at part (count - i) c) ≡ total → with_prefix (prefix ++ n ∷ []) (many_at part (count - (i + 1)) after) ≡ total
unfolding many_at
goes_on part prefix count i c n after total lt h so_far =
    let k : count - i ≡ suc (count - (i + 1)) = omega arith in
    let one : with_prefix prefix (many_at part (count - i) c) ≡ with_prefix (prefix ++ n ∷ []) (many_at part (count - (i + 1)) after) = rw (k, h) (with_prefix-next prefix n (many_at part (count - (i + 1)) after)) in
    sym one ∙ so_far

-- a part failed
pub ends : {A E : Type 0} (part : Cursor → Result (A × Cursor) E) (out_of_memory : Bool) (e : E) (prefix : List A) (count i : ℕ) (c : Cursor) (total : Result (List A × Cursor) E) → i < count → Fails out_of_memory e (part c)
    → with_prefix prefix (many_at part (count - i) c) ≡ total → Fails out_of_memory e total
unfolding many_at
ends {A} part out_of_memory e prefix count i c total lt h so_far =
    let k : count - i ≡ suc (count - (i + 1)) = omega arith in
    let rest = λ (first : A × Cursor). many_at part (count - (i + 1)) first.1 >>= λ others. Ok (first.0 ∷ others.0, others.1) in
    let add = λ (x : List A × Cursor). Ok (prefix ++ x.0, x.1) in
    let failed : Fails out_of_memory e (with_prefix prefix (many_at part (suc (count - (i + 1))) c)) = fails_then out_of_memory e (part c >>= rest) add (fails_then out_of_memory e (part c) rest h) in
    subst (λ t. Fails out_of_memory e t) so_far (rw k failed)

-- all parts were read
pub is_done : {A E : Type 0} (part : Cursor → Result (A × Cursor) E) (prefix : List A) (count i : ℕ) (c : Cursor) (total : Result (List A × Cursor) E) → count ≤ i → with_prefix prefix (many_at part (count - i) c) ≡ total → total ≡ Ok (prefix, c)
unfolding many_at
is_done part prefix count i c total le so_far =
    let k : count - i ≡ 0 = omega arith in
    let one : with_prefix prefix (many_at part (count - i) c) ≡ Ok (prefix, c) = rw k (ap (λ ns. Ok (ns, c)) (append-nil prefix)) in
    sym so_far ∙ one
