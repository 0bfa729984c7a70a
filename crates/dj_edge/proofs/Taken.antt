-- What several reads of a stream took together.
use Rattle.std.proofs.Common.{◌≡◌, ℕ, ◌+◌, ◌-◌, ◌<◌, ◌≤◌, List, [], ◌++◌, length, length-append, append-nil, Option, None, Some, IfSome, Err, refl, sym, ap, subst, arith}
use Rattle.std.specs.Io.KnownBytes.{Consumes, IsAtEnd}
use Rattle.std.proofs.KnownBytes.{Consumes-trans, Consumes-whole}
use Rattle.dj_edge.specs.declared.files.ReadError.{ReadError}
use Rattle.dj_edge.specs.declared.files.ReadError.TheVariants as read_errors
use Rattle.dj_edge.specs.Streams.{ReadsMore, TakesAtMost}

-- one more read
pub took_more : (a b c : Option (List ℕ)) (before taken now : List ℕ) → Consumes a b before → Consumes b c taken → now ≡ before ++ taken → Consumes a c now
took_more a b c before taken now first second same = subst (Consumes a c) (sym same) (Consumes-trans a b c before taken first second)

-- more was taken than this many, so there is more
pub took_past : (a b : Option (List ℕ)) (taken : List ℕ) (most : ℕ) → Consumes a b taken → most < length taken → IfSome a (λ all. most < length all)
took_past None b taken most p past = tt
took_past (Some x) None taken most p past = absurd p
took_past (Some x) (Some y) taken most p past = omega (arith, ap length p, length-append taken y)

-- all was taken
pub took_all : (a b c : Option (List ℕ)) (taken : List ℕ) → Consumes a b taken → Consumes b c [] → IsAtEnd c → IfSome a (λ all. taken ≡ all)
took_all a b c taken p q end = Consumes-whole a c taken (λ all. taken ≡ all) (took_more a b c taken [] taken p q (sym (append-nil taken))) end refl

pub took_at_most : (a b : Option (List ℕ)) (taken : List ℕ) (most : ℕ) → Consumes a b taken → length taken ≤ most → TakesAtMost a b most
took_at_most a b taken most p short = (taken, short, p)

-- what a last read took, within what was left
pub took_last : (a b c : Option (List ℕ)) (before : List ℕ) (most : ℕ) → Consumes a b before → length before ≤ most → TakesAtMost b c (most + 1 - length before) → TakesAtMost a c (most + 1)
took_last a b c before most p short last =
    (before ++ last.0, omega (arith, length-append before last.0, last.1), Consumes-trans a b c before last.0 p last.2)

pub took_before_error : (a b c : Option (List ℕ)) (before now : List ℕ) (most : ℕ) (error : ReadError) → Consumes a b before → length before ≤ most
    → ReadsMore b c before now most (Err error) → TakesAtMost a c (most + 1)
took_before_error a b c before now most read_errors.Failed p short last = took_last a b c before most p short last
took_before_error a b c before now most read_errors.Memory p short last = took_last a b c before most p short last
took_before_error a b c before now most read_errors.TooLong p short last = absurd last
took_before_error a b c before now most read_errors.Absent p short last = absurd last
