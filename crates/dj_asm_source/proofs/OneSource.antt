-- A text is one source's at most: a source has one list of lines, and a list of lines is one source's.
use Rattle.std.proofs.Common.{◌≡◌, ℕ, ℤ, Bool, true, false, List, [], ◌∷◌, ◌++◌, map, Option, Some, None, refl, sym, ap, ◌∙◌, append_assoc, true≢false}
use Rattle.std.specs.List.{flat_map}
use Rattle.dj_asm_source.specs.trusted.Lines.{Line, Frame, Operation, Aside, Class, Version, Super, Implements, Field, Abstract, Method, Stack, Locals, Beside, Framed, Does, End}
use Rattle.dj_asm_source.specs.trusted.Sources.{Source, FieldSource, BodyPart, Mark, Step, FrameStep, MethodSource, Bodiless, Coded, version_lines, field_line, part_lines, body_lines, method_lines, lines_of, IsTextOf}
use Rattle.dj_asm_source.proofs.TextLaws.{text_lines}

-- ---- lists of lines of one kind

abbrev leads : (Line → Bool) → List Line → Bool
leads test [] = false
leads test (x ∷ xs) = test x

head_is : (x y : Line) (xs ys : List Line) → x ∷ xs ≡ y ∷ ys → x ≡ y
head_is x y xs ys e = cc

tail_is : (x y : Line) (xs ys : List Line) → x ∷ xs ≡ y ∷ ys → xs ≡ ys
tail_is x y xs ys e = cc

module _ {A : Type 0} (f : A → Line) (test : Line → Bool) (passes : (a : A) → test (f a) ≡ true) (one : (a b : A) → f a ≡ f b → a ≡ b) where
  kind_same : (these bs : List A) (xs ys : List Line) → leads test xs ≡ false → leads test ys ≡ false → map f these ++ xs ≡ map f bs ++ ys → (these ≡ bs) × (xs ≡ ys)
  kind_same [] [] xs ys p q e = (refl, e)
  kind_same [] (b ∷ bs) xs ys p q e = absurd (true≢false (sym (passes b) ∙ (sym (ap (leads test) e) ∙ p)))
  kind_same (a ∷ these) [] xs ys p q e = absurd (true≢false (sym (passes a) ∙ (ap (leads test) e ∙ q)))
  kind_same (a ∷ these) (b ∷ bs) xs ys p q e =
      let same : a ≡ b = one a b (head_is (f a) (f b) (map f these ++ xs) (map f bs ++ ys) e) in
      let r = kind_same these bs xs ys p q (tail_is (f a) (f b) (map f these ++ xs) (map f bs ++ ys) e) in
      (ap (λ c. c ∷ these) same ∙ ap (λ l. b ∷ l) r.0, r.1)

-- ---- bodies

abbrev is_beside : Line → Bool
is_beside (Beside aside) = true
is_beside line = false

one_aside : (a b : Aside) → Beside a ≡ Beside b → a ≡ b
one_aside a b e = cc

frame_part : (frame : Frame) (asides : List Aside) (operation : Operation) (body : List BodyPart) (xs : List Line)
    → body_lines (FrameStep frame asides operation ∷ body) ++ xs ≡ Framed frame ∷ (map Beside asides ++ (Does operation ∷ (body_lines body ++ xs)))
frame_part frame asides operation body xs =
    append_assoc (part_lines (FrameStep frame asides operation)) (body_lines body) xs
    ∙ ap (λ l. Framed frame ∷ l) (append_assoc (map Beside asides) (Does operation ∷ []) (body_lines body ++ xs))

body_same : (bs cs : List BodyPart) (xs ys : List Line) → body_lines bs ++ (End ∷ xs) ≡ body_lines cs ++ (End ∷ ys) → (bs ≡ cs) × (xs ≡ ys)
body_same [] [] xs ys e = (refl, cc)
body_same [] (Mark a ∷ cs) xs ys e = absurd cc
body_same [] (Step o ∷ cs) xs ys e = absurd cc
body_same [] (FrameStep f these o ∷ cs) xs ys e = absurd cc
body_same (Mark a ∷ bs) [] xs ys e = absurd cc
body_same (Step o ∷ bs) [] xs ys e = absurd cc
body_same (FrameStep f these o ∷ bs) [] xs ys e = absurd cc
body_same (Mark a ∷ bs) (Mark b ∷ cs) xs ys e =
    let same : a ≡ b = cc in
    let r = body_same bs cs xs ys (tail_is (Beside a) (Beside b) (body_lines bs ++ (End ∷ xs)) (body_lines cs ++ (End ∷ ys)) e) in
    (ap (λ k. Mark k ∷ bs) same ∙ ap (λ l. Mark b ∷ l) r.0, r.1)
body_same (Mark a ∷ bs) (Step o ∷ cs) xs ys e = absurd cc
body_same (Mark a ∷ bs) (FrameStep f these o ∷ cs) xs ys e = absurd cc
body_same (Step o ∷ bs) (Mark b ∷ cs) xs ys e = absurd cc
body_same (Step o ∷ bs) (Step p ∷ cs) xs ys e =
    let same : o ≡ p = cc in
    let r = body_same bs cs xs ys (tail_is (Does o) (Does p) (body_lines bs ++ (End ∷ xs)) (body_lines cs ++ (End ∷ ys)) e) in
    (ap (λ k. Step k ∷ bs) same ∙ ap (λ l. Step p ∷ l) r.0, r.1)
body_same (Step o ∷ bs) (FrameStep f these p ∷ cs) xs ys e = absurd cc
body_same (FrameStep f these o ∷ bs) (Mark b ∷ cs) xs ys e = absurd cc
body_same (FrameStep f these o ∷ bs) (Step p ∷ cs) xs ys e = absurd cc
body_same (FrameStep f these o ∷ bs) (FrameStep g gs p ∷ cs) xs ys e =
    let left = Does o ∷ (body_lines bs ++ (End ∷ xs)) in
    let right = Does p ∷ (body_lines cs ++ (End ∷ ys)) in
    let whole : Framed f ∷ (map Beside these ++ left) ≡ Framed g ∷ (map Beside gs ++ right) = sym (frame_part f these o bs (End ∷ xs)) ∙ (e ∙ frame_part g gs p cs (End ∷ ys)) in
    let frames : f ≡ g = cc (whole) in
    let asides = kind_same Beside is_beside (λ a. refl) one_aside these gs left right refl refl (tail_is (Framed f) (Framed g) (map Beside these ++ left) (map Beside gs ++ right) whole) in
    let operations : o ≡ p = cc (asides.1) in
    let r = body_same bs cs xs ys (tail_is (Does o) (Does p) (body_lines bs ++ (End ∷ xs)) (body_lines cs ++ (End ∷ ys)) asides.1) in
    (ap (λ k. FrameStep k these o ∷ bs) frames ∙ (ap (λ k. FrameStep g k o ∷ bs) asides.0 ∙ (ap (λ k. FrameStep g gs k ∷ bs) operations ∙ ap (λ l. FrameStep g gs p ∷ l) r.0)), r.1)

-- ---- methods

coded_part : (flags : ℕ) (name desc : List ℕ) (stack locals : ℤ) (body : List BodyPart) (xs : List Line)
    → method_lines (Coded flags name desc stack locals body) ++ xs ≡ Method flags name desc ∷ (Stack stack ∷ (Locals locals ∷ (body_lines body ++ (End ∷ xs))))
coded_part flags name desc stack locals body xs = ap (λ l. Method flags name desc ∷ (Stack stack ∷ (Locals locals ∷ l))) (append_assoc (body_lines body) (End ∷ []) xs)

method_same : (m n : MethodSource) (xs ys : List Line) → method_lines m ++ xs ≡ method_lines n ++ ys → (m ≡ n) × (xs ≡ ys)
method_same (Bodiless flags name desc) (Bodiless flags' name' desc') xs ys e =
    let f : flags ≡ flags' = cc in
    let n : name ≡ name' = cc in
    let d : desc ≡ desc' = cc in
    (cc (f, n, d), tail_is (Abstract flags name desc) (Abstract flags' name' desc') xs ys e)
method_same (Bodiless flags name desc) (Coded flags' name' desc' stack locals body) xs ys e = absurd cc
method_same (Coded flags name desc stack locals body) (Bodiless flags' name' desc') xs ys e = absurd cc
method_same (Coded flags name desc stack locals body) (Coded flags' name' desc' stack' locals' body') xs ys e =
    let left = body_lines body ++ (End ∷ xs) in
    let right = body_lines body' ++ (End ∷ ys) in
    let whole : Method flags name desc ∷ (Stack stack ∷ (Locals locals ∷ left)) ≡ Method flags' name' desc' ∷ (Stack stack' ∷ (Locals locals' ∷ right)) =
    sym (coded_part flags name desc stack locals body xs) ∙ (e ∙ coded_part flags' name' desc' stack' locals' body' ys) in
    let one = tail_is (Method flags name desc) (Method flags' name' desc') (Stack stack ∷ (Locals locals ∷ left)) (Stack stack' ∷ (Locals locals' ∷ right)) whole in
    let two = tail_is (Stack stack) (Stack stack') (Locals locals ∷ left) (Locals locals' ∷ right) one in
    let three = tail_is (Locals locals) (Locals locals') left right two in
    let f : flags ≡ flags' = cc (whole) in
    let n : name ≡ name' = cc (whole) in
    let d : desc ≡ desc' = cc (whole) in
    let s : stack ≡ stack' = cc (one) in
    let l : locals ≡ locals' = cc (two) in
    let b = body_same body body' xs ys three in
    (cc (f, n, d, s, l, b.0), b.1)

some_method : (m : MethodSource) (xs : List Line) → method_lines m ++ xs ≡ [] → ⊥
some_method (Bodiless flags name desc) xs e = absurd cc
some_method (Coded flags name desc stack locals body) xs e = absurd cc

methods_same : (ms ns : List MethodSource) → flat_map method_lines ms ≡ flat_map method_lines ns → ms ≡ ns
methods_same [] [] e = refl
methods_same [] (n ∷ ns) e = absurd (some_method n (flat_map method_lines ns) (sym e))
methods_same (m ∷ ms) [] e = absurd (some_method m (flat_map method_lines ms) e)
methods_same (m ∷ ms) (n ∷ ns) e =
    let r = method_same m n (flat_map method_lines ms) (flat_map method_lines ns) e in
    ap (λ k. k ∷ ms) r.0 ∙ ap (λ l. n ∷ l) (methods_same ms ns r.1)

-- ---- interfaces and fields

abbrev is_field : Line → Bool
is_field (Field flags name desc value) = true
is_field line = false

abbrev is_implements : Line → Bool
is_implements (Implements name) = true
is_implements line = false

one_name : (a b : List ℕ) → Implements a ≡ Implements b → a ≡ b
one_name a b e = cc

one_field : (a b : FieldSource) → field_line a ≡ field_line b → a ≡ b
one_field a b e = ap field_of e where
  field_of : Line → FieldSource
  field_of (Field flags name desc value) = record { flags = flags; name = name; desc = desc; value = value }
  field_of line = a

no_field : (ms : List MethodSource) → leads is_field (flat_map method_lines ms) ≡ false
no_field [] = refl
no_field (Bodiless flags name desc ∷ ms) = refl
no_field (Coded flags name desc stack locals body ∷ ms) = refl

no_implements : (fs : List FieldSource) (ms : List MethodSource) → leads is_implements (map field_line fs ++ flat_map method_lines ms) ≡ false
no_implements [] [] = refl
no_implements [] (Bodiless flags name desc ∷ ms) = refl
no_implements [] (Coded flags name desc stack locals body ∷ ms) = refl
no_implements (f ∷ fs) ms = refl

tail_lines : List (List ℕ) → List FieldSource → List MethodSource → List Line
tail_lines names fields methods = map Implements names ++ (map field_line fields ++ flat_map method_lines methods)

tail_same : (is js : List (List ℕ)) (fs gs : List FieldSource) (ms ns : List MethodSource) → tail_lines is fs ms ≡ tail_lines js gs ns → (is ≡ js) × (fs ≡ gs) × (ms ≡ ns)
unfolding tail_lines
tail_same is js fs gs ms ns e =
    let a = kind_same Implements is_implements (λ n. refl) one_name is js (map field_line fs ++ flat_map method_lines ms) (map field_line gs ++ flat_map method_lines ns) (no_implements fs ms) (no_implements gs ns) e in
    let b = kind_same field_line is_field (λ f. refl) one_field fs gs (flat_map method_lines ms) (flat_map method_lines ns) (no_field ms) (no_field ns) a.1 in
    (a.0, b.0, methods_same ms ns b.1)

-- ---- sources

abbrev source : ℕ → List ℕ → Option (ℤ × ℤ) → List ℕ → List (List ℕ) → List FieldSource → List MethodSource → Source
source flags name version super names fields methods =
    record { flags = flags; name = name; version = version; super = super; interfaces = names; fields = fields; methods = methods }

lines_parts : (flags : ℕ) (name : List ℕ) (version : Option (ℤ × ℤ)) (super : List ℕ) (names : List (List ℕ)) (fields : List FieldSource) (methods : List MethodSource)
    → lines_of (source flags name version super names fields methods) ≡ Class flags name ∷ (version_lines version ++ (Super super ∷ tail_lines names fields methods))
unfolding tail_lines
lines_parts flags name None super names fields methods = ap (λ l. Class flags name ∷ (Super super ∷ l)) (append_assoc (map Implements names) (map field_line fields) (flat_map method_lines methods))
lines_parts flags name (Some (major, minor)) super names fields methods =
    ap (λ l. Class flags name ∷ (Version major minor ∷ (Super super ∷ l))) (append_assoc (map Implements names) (map field_line fields) (flat_map method_lines methods))

version_same : (v w : Option (ℤ × ℤ)) (s t : List ℕ) (xs ys : List Line) → version_lines v ++ (Super s ∷ xs) ≡ version_lines w ++ (Super t ∷ ys) → (v ≡ w) × (s ≡ t) × (xs ≡ ys)
version_same None None s t xs ys e = (refl, cc, tail_is (Super s) (Super t) xs ys e)
version_same None (Some (a, b)) s t xs ys e = absurd cc
version_same (Some (a, b)) None s t xs ys e = absurd cc
version_same (Some (a, b)) (Some (c, d)) s t xs ys e =
    let one : a ≡ c = cc in
    let two : b ≡ d = cc in
    let rest = tail_is (Version a b) (Version c d) (Super s ∷ xs) (Super t ∷ ys) e in
    let three : s ≡ t = cc (rest) in
    (cc (one, two), three, tail_is (Super s) (Super t) xs ys rest)

parts_same : (a b : Source) → lines_of a ≡ lines_of b → a ≡ b
parts_same a b e =
    let left = version_lines a.version ++ (Super a.super ∷ tail_lines a.interfaces a.fields a.methods) in
    let right = version_lines b.version ++ (Super b.super ∷ tail_lines b.interfaces b.fields b.methods) in
    let whole : Class a.flags a.name ∷ left ≡ Class b.flags b.name ∷ right =
    sym (lines_parts a.flags a.name a.version a.super a.interfaces a.fields a.methods) ∙ (e ∙ lines_parts b.flags b.name b.version b.super b.interfaces b.fields b.methods) in
    let f : a.flags ≡ b.flags = cc (whole) in
    let n : a.name ≡ b.name = cc (whole) in
    let v = version_same a.version b.version a.super b.super (tail_lines a.interfaces a.fields a.methods) (tail_lines b.interfaces b.fields b.methods) (tail_is (Class a.flags a.name) (Class b.flags b.name) left right whole) in
    let t = tail_same a.interfaces b.interfaces a.fields b.fields a.methods b.methods v.2 in
    ap (λ k. source k a.name a.version a.super a.interfaces a.fields a.methods) f
    ∙ (ap (λ k. source b.flags k a.version a.super a.interfaces a.fields a.methods) n
    ∙ (ap (λ k. source b.flags b.name k a.super a.interfaces a.fields a.methods) v.0
    ∙ (ap (λ k. source b.flags b.name b.version k a.interfaces a.fields a.methods) v.1
    ∙ (ap (λ k. source b.flags b.name b.version b.super k a.fields a.methods) t.0
    ∙ (ap (λ k. source b.flags b.name b.version b.super b.interfaces k a.methods) t.1
    ∙ ap (λ k. source b.flags b.name b.version b.super b.interfaces b.fields k) t.2)))))

-- a list of lines is one source's
pub one_source_of_lines : (a b : Source) → lines_of a ≡ lines_of b → a ≡ b
one_source_of_lines a b e = parts_same a b e

-- a text says one source at most
pub one_source : (text : List ℕ) (a b : Source) → IsTextOf text a → IsTextOf text b → a ≡ b
one_source text a b p q = parts_same a b (text_lines text a b p q)
