-- Class files without faulty parts have one program at most.
use Rattle.std.proofs.Common.{◌≡◌, ◌≢◌, ℕ, zero, suc, Bool, true, false, ◌||◌, ◌+◌, ◌<◌, List, [], ◌∷◌, map, length, Contains, Option, Some, None, refl, sym, ap, ◌∙◌, subst, IsTrue, IsFalse, inl, inr, arith, ◌⊎◌, nat_eq}
use Rattle.std.specs.Prelude.{◌^◌, ◌/◌, ◌%◌, codes}
use Rattle.std.specs.Int.{bit_at, IsBitSet}
use Rattle.std.specs.List.Sorted.{IsStrictlyIncreasing}
use Rattle.std.proofs.lemmas.Nat.{bit_set_by_shift, and_mask}
use Rattle.dj_names.specs.trusted.Library.{Library}
use Rattle.dj_ops.specs.declared.frames.Frame.{Frame}
use Rattle.dj_pool.specs.trusted.Pool.{Constant}
use Rattle.dj_class.specs.trusted.ClassFile.{MemberInfo, ClassFile}
use Rattle.dj_class.specs.trusted.Code.{CodeInfo, IsCode}
use Rattle.dj_class.proofs.CodeLaws.{one_code}
use Rattle.dj_labels.specs.declared.labelled.Labelled.{Labelled}
use Rattle.dj_labels.specs.trusted.Labels.{IsCut, IsLabelled}
use Rattle.dj_labels.proofs.Cuts.{whole_ends, one_cut, starts_rise}
use Rattle.dj_labels.proofs.Once.{one_labelling_is}
use Rattle.dj_frames.specs.trusted.StackMaps.{IsStackMap}
use Rattle.dj_frames.proofs.WholeLaws.{one_stack_map}
use Rattle.dj_model.specs.trusted.Program.{Program, Class, Method, Field, Body, Abstract, Runs, Code, has_flag}
use Rattle.dj_model.specs.trusted.Libraries.{joined, library_program}
use Rattle.dj_early_rules.specs.trusted.Attributes.{codes_of, maps_of}
use Rattle.dj_early_rules.specs.trusted.Malformed.{IsBodiless, LacksCode, IsFaulty, IsFaultyMethod}
use Rattle.dj_early_rules.specs.trusted.Code.{IsCodeOf, AreFramesAt, AreFramesOf, HasFrames}
use Rattle.dj_declarations.specs.trusted.Files.{is_bodiless, declared_method, declared_class}
use Rattle.dj_program.specs.trusted.Codes.{CodeParts, code_in, IsMethodCode}
use Rattle.dj_program.specs.trusted.Programs.{AreSideBySide, IsBodyIn, IsMethodIn, field_in_file, IsClassIn, IsProgramIn}
use Rattle.dj_program.specs.Laws.{AreWhole, OneProgram}

-- ---- flags

bit_is : (n k : ℕ) → IsBitSet n k → bit_at n k ≡ 1
bit_is n k set = sym (and_mask (n / 2 ^ k) 1) ∙ (bit_set_by_shift n k).1 set

flag_is : (n k : ℕ) → IsBitSet n k → has_flag k n ≡ true
flag_is n k set = ap (λ (b : ℕ). nat_eq b 1) (bit_is n k set)

-- what is native or abstract has no code
bodiless_is : (m : MemberInfo) → IsBodiless m → is_bodiless m.flags ≡ true
bodiless_is m (inl native) = (let e : has_flag 8 m.flags ≡ true = flag_is m.flags 8 native in cc)
bodiless_is m (inr abstract) = (let e : has_flag 10 m.flags ≡ true = flag_is m.flags 10 abstract in or_true (has_flag 8 m.flags) (has_flag 10 m.flags) e) where
  or_true : (a b : Bool) → b ≡ true → (a || b) ≡ true
  or_true true b e = refl
  or_true false b e = e

has_body : (m : MemberInfo) → IsFalse (is_bodiless m.flags) → IsBodiless m → ⊥
has_body m false_is bodiless = (let e : is_bodiless m.flags ≡ true = bodiless_is m bodiless in absurd cc)

-- ---- one Code attribute

one_there : {A : Type 0} (as_one : List A) (a b : A) → length as_one ≡ 1 → Contains as_one a → Contains as_one b → a ≡ b
one_there {A} [] a b e has other = absurd cc
one_there {A} (x ∷ []) a b e has other = sym (only x a has) ∙ only x b other where
  only : (x a : A) → Contains (x ∷ []) a → x ≡ a
  only x a (zero, lt, is) = is
  only x a (suc k, lt, is) = absurd (omega (arith, lt))
one_there {A} (x ∷ (y ∷ more)) a b e has other = absurd (omega (arith, e))

one_number : (n m : ℕ) → ((n ≢ m) → ⊥) → n ≡ m
one_number zero zero never = refl
one_number zero (suc m) never = absurd (never (λ e. absurd cc))
one_number (suc n) zero never = absurd (never (λ e. absurd cc))
one_number (suc n) (suc m) never = ap suc (one_number n m (λ differ. never (λ e. differ (omega (arith, e)))))

-- a method of a class file without faulty parts
abbrev IsWholeMethod : List Constant → MemberInfo → Type 0
IsWholeMethod pool m = LacksCode pool m → ⊥

one_body : (pool : List Constant) (m : MemberInfo) → IsWholeMethod pool m → IsFalse (is_bodiless m.flags) → length (codes_of pool m) ≡ 1
one_body pool m whole f = one_number (length (codes_of pool m)) 1 (λ differ. whole (has_body m f, differ))

one_info : (pool : List Constant) (m : MemberInfo) (a b : CodeInfo) → length (codes_of pool m) ≡ 1 → IsCodeOf pool m a → IsCodeOf pool m b → a ≡ b
one_info pool m a b one x y =
    let same : x.body ≡ y.body = one_there (codes_of pool m) x.body y.body one x.own y.own in
    one_code y.body a b (subst (λ (body : List ℕ). IsCode body a) same x.is) y.is

-- ---- frames

one_frames_at : (starts body : List ℕ) (a b : Option (List Frame)) → IsStrictlyIncreasing starts → AreFramesAt starts body a → AreFramesAt starts body b → a ≡ b
one_frames_at starts body (Some x) (Some y) rise p q = ap Some (one_stack_map body starts x y rise p q)
one_frames_at starts body (Some x) None rise p q = absurd (q x p)
one_frames_at starts body None (Some y) rise p q = absurd (p y q)
one_frames_at starts body None None rise p q = refl

one_frames_of : (code body : List ℕ) (a b : Option (List Frame)) → AreFramesOf code body a → AreFramesOf code body b → a ≡ b
one_frames_of code body a b x y =
    let same = one_cut code x.starts y.starts x.instrs y.instrs (length code) (length code) (whole_ends code) (whole_ends code) x.cut y.cut in
    one_frames_at y.starts body a b (λ k lt. starts_rise code y.starts y.instrs (length code) y.cut k (k + 1) 0 (omega arith) lt) (subst (λ (starts : List ℕ). AreFramesAt starts body a) same.starts x.are) y.are

one_frames : (code : List ℕ) (bodies : List (List ℕ)) (a b : Option (List Frame)) → HasFrames code bodies a → HasFrames code bodies b → a ≡ b
one_frames code [] a b x y = x ∙ sym y
one_frames code (body ∷ bodies) a b x y = one_frames_of code body a b x y

-- ---- code

parts_are : {a b : CodeParts} → a.max_stack ≡ b.max_stack → a.max_locals ≡ b.max_locals → a.labelled ≡ b.labelled → a.frames ≡ b.frames → a ≡ b
parts_are {a} {b} stack locals labels frames =
    ap (λ n. record a { max_stack = n }) stack
    ∙ ap (λ n. record a { max_stack = b.max_stack; max_locals = n }) locals
    ∙ ap (λ l. record a { max_stack = b.max_stack; max_locals = b.max_locals; labelled = l }) labels
    ∙ ap (λ fs. record b { frames = fs }) frames

pub one_parts : (pool : List Constant) (m : MemberInfo) (a b : CodeParts) → length (codes_of pool m) ≡ 1 → IsMethodCode pool m a → IsMethodCode pool m b → a ≡ b
one_parts pool m a b one x y =
    let same : x.info ≡ y.info = one_info pool m x.info y.info one x.own y.own in
    let stack : a.max_stack ≡ b.max_stack = x.stack ∙ ap (λ (i : CodeInfo). i.max_stack) same ∙ sym y.stack in
    let locals : a.max_locals ≡ b.max_locals = x.locals ∙ ap (λ (i : CodeInfo). i.max_locals) same ∙ sym y.locals in
    let labels : a.labelled ≡ b.labelled = one_labelling_is y.info.code y.info.table a.labelled b.labelled (subst (λ (i : CodeInfo). IsLabelled i.code i.table a.labelled) same x.labels) y.labels in
    let frames = one_frames y.info.code (maps_of pool y.info) a.frames b.frames (subst (λ (i : CodeInfo). HasFrames i.code (maps_of pool i) a.frames) same x.frames) y.frames in
    parts_are stack locals labels frames

nothing_in : {A : Type 0} (x : A) → Contains [] x → ⊥
nothing_in {A} x (k, lt, is) = absurd (omega (arith, lt))

-- the code of a method that isn't faulty
pub one_code_parts : (pool : List Constant) (m : MemberInfo) (a b : CodeParts) → (IsFaultyMethod pool m → ⊥) → IsMethodCode pool m a → IsMethodCode pool m b → a ≡ b
one_code_parts pool m a b sound x y =
    let some : codes_of pool m ≢ [] = λ none. nothing_in x.own.body (subst (λ (bodies : List (List ℕ)). Contains bodies x.own.body) none x.own.own) in
    one_parts pool m a b (one_number (length (codes_of pool m)) 1 (λ differ. sound (inl (λ bodiless. sound (inr (inl (bodiless, some))), differ)))) x y

one_body_in : (pool : List Constant) (m : MemberInfo) (a b : Body) → IsWholeMethod pool m → IsBodyIn pool m a → IsBodyIn pool m b → a ≡ b
one_body_in pool m a b whole (inl (t, x)) (inl (u, y)) = x ∙ sym y
one_body_in pool m a b whole (inl (t, x)) (inr (u, parts, is, y)) = absurd cc
one_body_in pool m a b whole (inr (t, parts, is, x)) (inl (u, y)) = absurd cc
one_body_in pool m a b whole (inr (t, parts, is, x)) (inr (u, others, are, y)) =
    let same : parts ≡ others = one_parts pool m parts others (one_body pool m whole t) is are in
    x ∙ ap (λ (p : CodeParts). Runs (code_in pool p)) same ∙ sym y

one_method : (pool : List Constant) (m : MemberInfo) (a b : Method) → IsWholeMethod pool m → IsMethodIn pool m a → IsMethodIn pool m b → a ≡ b
one_method pool m a b whole x y =
    let same : x.body ≡ y.body = one_body_in pool m x.body y.body whole x.is_body y.is_body in
    x.is ∙ ap (λ (body : Body). record (declared_method pool m) { body = body }) same ∙ sym y.is

one_methods : (pool : List Constant) (ms : List MemberInfo) (xs ys : List Method) → ((m : MemberInfo) → Contains ms m → IsWholeMethod pool m)
    → AreSideBySide (IsMethodIn pool) ms xs → AreSideBySide (IsMethodIn pool) ms ys → xs ≡ ys
one_methods pool [] [] [] whole p q = refl
one_methods pool [] [] (y ∷ ys) whole p q = absurd q
one_methods pool [] (x ∷ xs) ys whole p q = absurd p
one_methods pool (m ∷ ms) [] ys whole p q = absurd p
one_methods pool (m ∷ ms) (x ∷ xs) [] whole p q = absurd q
one_methods pool (m ∷ ms) (x ∷ xs) (y ∷ ys) whole p q =
    let first : x ≡ y = one_method pool m x y (whole m (0, omega arith, refl)) p.0 q.0 in
    let rest : xs ≡ ys = one_methods pool ms xs ys (λ other (k, lt, is). whole other (suc k, omega (arith, lt), is)) p.1 q.1 in
    cc

-- ---- classes and programs

one_class : (c : ClassFile) (a b : Class) → (IsFaulty c → ⊥) → IsClassIn c a → IsClassIn c b → a ≡ b
one_class c a b whole x y =
    let same : x.methods ≡ y.methods = one_methods c.pool c.methods x.methods y.methods (λ m has lacks. whole (inl (m, has, inl lacks))) x.each y.each in
    x.is ∙ ap (λ (ms : List Method). record (declared_class c) { fields = map (field_in_file c.pool) c.fields; methods = ms }) same ∙ sym y.is

one_classes : (files : List ClassFile) (xs ys : List Class) → AreWhole files → AreSideBySide IsClassIn files xs → AreSideBySide IsClassIn files ys → xs ≡ ys
one_classes [] [] [] whole p q = refl
one_classes [] [] (y ∷ ys) whole p q = absurd q
one_classes [] (x ∷ xs) ys whole p q = absurd p
one_classes (c ∷ files) [] ys whole p q = absurd p
one_classes (c ∷ files) (x ∷ xs) [] whole p q = absurd q
one_classes (c ∷ files) (x ∷ xs) (y ∷ ys) whole p q =
    let first : x ≡ y = one_class c x y whole.0 p.0 q.0 in
    let rest : xs ≡ ys = one_classes files xs ys whole.1 p.1 q.1 in
    cc

pub one_is : OneProgram
one_is library files a b whole x y =
    let same : x.classes ≡ y.classes = one_classes files x.classes y.classes whole x.each y.each in
    x.is ∙ ap (λ (classes : List Class). joined classes (library_program library)) same ∙ sym y.is
