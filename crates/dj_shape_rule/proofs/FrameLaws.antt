-- Frames of a stack map, one after the other.
use Rattle.std.proofs.Common.{◌≡◌, ℕ, suc, ◌+◌, ◌<◌, ◌≤◌, Bool, true, false, ◌&&◌, List, [], ◌∷◌, ◌++◌, length, reverse, drop, drop-cons, get_or, is_some, IfSome, IfNone, Option, Some, None, nat_eq, nat_le, if◌then◌else◌, refl, sym, ap, subst, ◌∙◌, arith}
use Rattle.std.proofs.lemmas.Bool.Decides.{nat_tests}
use Rattle.std.specs.Option.{option_and_then}
use Rattle.dj_names.specs.declared.descriptor.Kind.{Kind}
use Rattle.dj_ops.specs.declared.frames.Form.{Form}
use Rattle.dj_ops.specs.declared.frames.Frame.{Frame}
use Rattle.dj_model.specs.trusted.Linking.{or_else}
use Rattle.dj_model.specs.trusted.Program.{Code}
use Rattle.dj_model.specs.trusted.Initialisation.{padded}
use Rattle.dj_model.specs.trusted.Kinds.{Kinds, Entries, depth, entry_slots, stack_of, form_entries, fitting, with_fitting, with_frame, frames_after, Placed, Map, Read, Faulty, and_then, placed_at}
use Rattle.dj_shape_rule.specs.Reported.{Reported, ReportedFrames, reported_at, reported_kinds, IsReportedAs, AreReported, IsKept}
use Rattle.dj_shape_rule.specs.Reading.{ChangesTo, fits_of, SaysSome, with_all}

-- ---- one frame

pub none_read : (code : Code) (e : Option Entries) → option_and_then (λ (x : Entries). stack_of x.stack) e ≡ None → fits_of code e ≡ None
none_read code None n = refl
none_read code (Some x) n = ap (λ (s : Option (List Kind)). fitting code x.locals s) n

-- whether what it declares fits
fit_by : (code : Code) (locals : List (Option Kind)) (stack : List Kind) → length (entry_slots locals) ≤ code.max_locals → depth stack ≤ code.max_stack
    → fitting code locals (Some stack) ≡ Some (record { locals = padded code.max_locals (entry_slots locals); stack = reverse stack })
fit_by code locals stack few low =
    let a : nat_le (length (entry_slots locals)) code.max_locals ≡ true = grind (arith, nat_tests) in
    let b : nat_le (depth stack) code.max_stack ≡ true = grind (arith, nat_tests) in
    rw (a, b) refl

many_locals : (code : Code) (locals : List (Option Kind)) (stack : List Kind) → code.max_locals < length (entry_slots locals) → fitting code locals (Some stack) ≡ None
many_locals code locals stack many = let a : nat_le (length (entry_slots locals)) code.max_locals ≡ false = grind (arith, nat_tests) in rw a refl

none_of_both : (a : Bool) (k : Kinds) → ◌≡◌ {A = Option Kinds} (if a && false then Some k else None) None
none_of_both true k = refl
none_of_both false k = refl

deep_stack : (code : Code) (locals : List (Option Kind)) (stack : List Kind) → code.max_stack < depth stack → fitting code locals (Some stack) ≡ None
deep_stack code locals stack deep =
    let b : nat_le (depth stack) code.max_stack ≡ false = grind (arith, nat_tests) in
    rw b (none_of_both (nat_le (length (entry_slots locals)) code.max_locals) (record { locals = padded code.max_locals (entry_slots locals); stack = reverse stack }))

pub low_so : (o : Option ℕ) (d m : ℕ) → IfSome o (λ s. (s ≡ d) × (s ≤ m)) → is_some o ≡ true → d ≤ m
low_so None d m h e = absurd cc
low_so (Some s) d m h e = let a = h.0 in let b = h.1 in omega arith

pub deep_so : (o : Option ℕ) (d m : ℕ) → IfNone o (m < d) → is_some o ≡ false → m < d
deep_so None d m h e = h
deep_so (Some s) d m h e = absurd cc

pub drop_at : {A : Type 0} (xs : List A) (i : ℕ) (x : A) → i < length xs → x ≡ get_or xs i x → drop i xs ≡ x ∷ drop (i + 1) xs
drop_at xs i x within at =
    let next : suc i ≡ i + 1 = omega arith in
    drop-cons xs i x within ∙ ap (λ y. y ∷ drop (suc i) xs) (sym at) ∙ ap (λ (n : ℕ). x ∷ drop n xs) next

module _ (code : Code) (old : List (Option Kind)) (form : Form) (stack : List Kind) (new : List (Option Kind)) (changes : ChangesTo (Some stack) (form_entries code old form) new) where
  reported_fit : fits_of code (form_entries code old form) ≡ fitting code new (Some stack)
  reported_fit =
      ap (fits_of code) changes.1 ∙ ap (λ (s : Option (List Kind)). fitting code changes.0.locals s) changes.3 ∙ ap (λ (l : List (Option Kind)). fitting code l (Some stack)) changes.2

  pub many_read : code.max_locals < length (entry_slots new) → fits_of code (form_entries code old form) ≡ None
  many_read many = reported_fit ∙ many_locals code new stack many

  pub deep_read : code.max_stack < depth stack → fits_of code (form_entries code old form) ≡ None
  deep_read deep = reported_fit ∙ deep_stack code new stack deep

  pub some_read : (reported : Reported) → reported.locals ≡ entry_slots new → reported.stack ≡ stack → length (entry_slots new) ≤ code.max_locals → depth stack ≤ code.max_stack
      → SaysSome code (form_entries code old form) reported new
  some_read reported l s few low = record {
    entries = changes.0;
    are = changes.1;
    locals = changes.2;
    fit = ap (λ (x : Option (List Kind)). fitting code changes.0.locals x) changes.3 ∙ ap (λ (x : List (Option Kind)). fitting code x (Some stack)) changes.2 ∙ fit_by code new stack few low
        ∙ ap (λ (x : List (Option Kind)). Some (record { locals = padded code.max_locals x; stack = reverse stack })) (sym l)
        ∙ ap (λ (x : List Kind). Some (record { locals = padded code.max_locals reported.locals; stack = reverse x })) (sym s);
    slots = l;
    few = subst (λ (x : List (Option Kind)). length x ≤ code.max_locals) (sym l) few;
    low = subst (λ (x : List Kind). depth x ≤ code.max_stack) (sym s) low;
  }

-- ---- those so far and one more

all_more : (placed : List Placed) (p : Placed) (rest : Map) → with_all placed (and_then p rest) ≡ with_all (placed ++ p ∷ []) rest
all_more [] p rest = refl
all_more (q ∷ placed) p rest = ap (and_then q) (all_more placed p rest)

pub all_faulty : (placed : List Placed) (at : ℕ) → with_all placed (Faulty at) ≡ Faulty at
all_faulty [] at = refl
all_faulty (q ∷ placed) at = ap (and_then q) (all_faulty placed at)

pub all_read : (placed : List Placed) → with_all placed (Read []) ≡ Read placed
all_read [] = refl
all_read (q ∷ placed) = ap (and_then q) (all_read placed)

placed_more : (placed : List Placed) (p : Placed) (n : ℕ) → placed_at (placed ++ p ∷ []) n ≡ or_else (placed_at placed n) (if nat_eq p.at n then Some p.kinds else None)
placed_more [] p n = refl
placed_more (q ∷ placed) p n = by (nat_eq q.at n) (placed_more placed p n) where
  by : (b : Bool) → placed_at (placed ++ p ∷ []) n ≡ or_else (placed_at placed n) (if nat_eq p.at n then Some p.kinds else None)
      → (if b then Some q.kinds else placed_at (placed ++ p ∷ []) n) ≡ or_else (if b then Some q.kinds else placed_at placed n) (if nat_eq p.at n then Some p.kinds else None)
  by true e = refl
  by false e = e

reported_more : (ms ml : ℕ) (a b : Option Reported) (c : Option Kinds) (test : Bool) (t : Reported) → IsReportedAs ms ml a c → length t.locals ≤ ml → depth t.stack ≤ ms
    → b ≡ or_else a (if test then Some t else None) → IsReportedAs ms ml b (or_else c (if test then Some (reported_kinds ml t) else None))
reported_more ms ml (Some own) b c test t is few low e =
    subst (λ (x : Option Reported). IsReportedAs ms ml x (or_else c (if test then Some (reported_kinds ml t) else None))) (sym e)
    (ap (λ (x : Option Kinds). or_else x (if test then Some (reported_kinds ml t) else None)) is.0, is.1, is.2)
reported_more ms ml None b c true t is few low e =
    subst (λ (x : Option Reported). IsReportedAs ms ml x (or_else c (Some (reported_kinds ml t)))) (sym e) (ap (λ (x : Option Kinds). or_else x (Some (reported_kinds ml t))) is, few, low)
reported_more ms ml None b c false t is few low e =
    subst (λ (x : Option Reported). IsReportedAs ms ml x (or_else c None)) (sym e) (ap (λ (x : Option Kinds). or_else x None) is)

-- the frames after one that was read
after_one : (code : Code) (cur : List (Option Kind)) (f : Frame) (rest : List Frame) (reported : Reported) (new : List (Option Kind)) → SaysSome code (form_entries code cur f.form) reported new
    → frames_after code cur (f ∷ rest) ≡ and_then (record { at = f.at; kinds = reported_kinds code.max_locals reported }) (frames_after code new rest)
unfolding frames_after
after_one code cur f rest reported new t =
    ap (λ (e : Option Entries). with_frame code f.at e (λ locals. frames_after code locals rest)) t.are
    ∙ ap (λ (k : Option Kinds). with_fitting f.at k (frames_after code t.entries.locals rest)) t.fit
    ∙ ap (λ (l : List (Option Kind)). and_then (record { at = f.at; kinds = reported_kinds code.max_locals reported }) (frames_after code l rest)) t.locals

pub after_none : (code : Code) (cur : List (Option Kind)) (f : Frame) (rest : List Frame) → fits_of code (form_entries code cur f.form) ≡ None → frames_after code cur (f ∷ rest) ≡ Faulty f.at
unfolding frames_after
after_none code cur f rest none = by (form_entries code cur f.form) none where
  by : (e : Option Entries) → fits_of code e ≡ None → with_frame code f.at e (λ locals. frames_after code locals rest) ≡ Faulty f.at
  by None n = refl
  by (Some x) n = ap (λ (k : Option Kinds). with_fitting f.at k (frames_after code x.locals rest)) n

pub after_end : (code : Code) (cur : List (Option Kind)) → frames_after code cur [] ≡ Read []
unfolding frames_after
after_end code cur = refl

pub read_more : (code : Code) (whole : Map) (cur new : List (Option Kind)) (f : Frame) (all rest : List Frame) (reported : Reported) (old more : ReportedFrames) → all ≡ f ∷ rest
    → (placed : List Placed) × (whole ≡ with_all placed (frames_after code cur all)) × AreReported code.max_stack code.max_locals placed old
    → SaysSome code (form_entries code cur f.form) reported new → IsKept old more f.at reported
    → (placed : List Placed) × (whole ≡ with_all placed (frames_after code new rest)) × AreReported code.max_stack code.max_locals placed more
read_more code whole cur new f all rest reported old more e read t kept =
    let p : Placed = record { at = f.at; kinds = reported_kinds code.max_locals reported } in (
      read.0 ++ p ∷ [],
      read.1 ∙ ap (λ (l : List Frame). with_all read.0 (frames_after code cur l)) e ∙ ap (with_all read.0) (after_one code cur f rest reported new t) ∙ all_more read.0 p (frames_after code new rest),
      λ n. subst (IsReportedAs code.max_stack code.max_locals (reported_at more n)) (sym (placed_more read.0 p n))
          (reported_more code.max_stack code.max_locals (reported_at old n) (reported_at more n) (placed_at read.0 n) (nat_eq f.at n) reported (read.2 n) t.few t.low (kept n)),
    )
