-- Lists of types, read one after the other.
use Rattle.std.proofs.Common.{◌≡◌, ℕ, suc, ◌++◌, Bool, true, false, cond, List, [], ◌∷◌, Option, Some, None, refl, sym, ap, subst, ◌∙◌, append_assoc, inl, inr}
use Rattle.std.specs.Bool.{⊤}
use Rattle.std.proofs.lemmas.Bool.{cases_Bool}
use Rattle.std.proofs.lemmas.List.{append-nil}
use Rattle.dj_asm_source.specs.declared.reader.Stop.{Stop}
use Rattle.dj_asm_source.specs.declared.reader.Stop.TheVariants as stops
use Rattle.dj_asm_tokens.specs.trusted.Words.{Token, Placed}
use Rattle.dj_asm_source.specs.trusted.Lines.{FrameType}
use Rattle.dj_asm_source.specs.Reading.{Read, Reader, Got, Wrong, Large, read_map, read_then, said_by, any_size, type_of}
use Rattle.dj_asm_source.specs.LineReading.{line_end, frame_type, types_from, types_until, types_up_to, is_end}
use Rattle.dj_asm_source.specs.StartViews.{AfterEnd}
use Rattle.dj_asm_source.specs.Stops.{Stops}

pub prefix_more : {A : Type 0} (prefix : List A) (a : A) (read : Read (List A)) → read_map (λ more. (prefix ++ a ∷ []) ++ more) read ≡ read_map (λ more. prefix ++ more) (read_map (λ more. a ∷ more) read)
prefix_more prefix a (Got more rest) = ap (λ (xs : List _). Got xs rest) (append_assoc prefix (a ∷ []) more)
prefix_more prefix a (Wrong rest) = refl
prefix_more prefix a (Large rest) = refl

pub stop_map : {A B : Type 0} (f : A → B) (stop : Stop) (read : Read A) → Stops stop read → Stops stop (read_map f read)
stop_map f stops.Memory read s = tt
stop_map f (stops.Wrong line column) (Got a rest) s = absurd s
stop_map f (stops.Wrong line column) (Wrong rest) s = s
stop_map f (stops.Wrong line column) (Large rest) s = s
stop_map f (stops.Large line) (Got a rest) s = absurd s
stop_map f (stops.Large line) (Wrong rest) s = s
stop_map f (stops.Large line) (Large rest) s = s
stop_map f stops.Missing (Got a rest) s = absurd s
stop_map f stops.Missing (Wrong rest) s = s
stop_map f stops.Missing (Large rest) s = s

-- what reading one type says of the token at the beginning
abbrev OneType : List Placed → FrameType → List Placed → Type 0
OneType tokens ty rest = (here : Placed) × (tokens ≡ here ∷ rest) × (type_of here.token ≡ Some ty)

said : (o : Option FrameType) (here : Placed) (more rest : List Placed) (ty : FrameType) → said_by any_size o here more ≡ Got ty rest → (o ≡ Some ty) × (more ≡ rest)
said None here more rest ty e = absurd (cc)
said (Some t) here more rest ty e = (cc, cc)

one_type : (tokens rest : List Placed) (ty : FrameType) → frame_type tokens ≡ Got ty rest → OneType tokens ty rest
one_type [] rest ty e = absurd (cc)
one_type (here ∷ more) rest ty e =
    let p = said (type_of here.token) here more rest ty e in
    (here, ap (λ (ts : List Placed). here ∷ ts) p.1, p.0)

not_ended : (ends : Token → Bool) (here : Placed) (rest : List Placed) → None ≡ cond (ends here.token) (Some rest) None → ends here.token ≡ false
not_ended ends here rest e =
    elim (cases_Bool (ends here.token)) [
      | inl h ↦ absurd (let f : None ≡ Some rest = e ∙ ap (λ (t : Bool). cond t (Some rest) None) h in cc)
      | inr h ↦ h
    ]

is_ended : (ends : Token → Bool) (here : Placed) (more rest : List Placed) → Some rest ≡ cond (ends here.token) (Some more) None → (ends here.token ≡ true) × (more ≡ rest)
is_ended ends here more rest e =
    elim (cases_Bool (ends here.token)) [
      | inl h ↦ (h, let f : Some rest ≡ Some more = e ∙ ap (λ (t : Bool). cond t (Some more) None) h in cc)
      | inr h ↦ absurd (let f : Some rest ≡ None = e ∙ ap (λ (t : Bool). cond t (Some more) None) h in cc)
    ]

-- ---- up to a token that ends them

until_none : (ends : Token → Bool) (tokens rest : List Placed) → AfterEnd ends tokens (Some rest) → types_until ends tokens ≡ Got [] rest
unfolding types_until
until_none ends [] rest after = absurd (cc)
until_none ends (here ∷ more) rest after =
    let p = is_ended ends here more rest after in
    ap (λ (t : Bool). types_from t (type_of here.token) here more (types_until ends more)) p.0 ∙ ap (λ (ts : List Placed). Got [] ts) p.1

until_one : (ends : Token → Bool) (tokens rest : List Placed) (ty : FrameType) → AfterEnd ends tokens None → frame_type tokens ≡ Got ty rest
    → types_until ends tokens ≡ read_map (λ more. ty ∷ more) (types_until ends rest)
unfolding types_until
until_one ends [] rest ty after e = absurd (cc)
until_one ends (here ∷ more) rest ty after e =
    let p = said (type_of here.token) here more rest ty e in
    ap (λ (t : Bool). types_from t (type_of here.token) here more (types_until ends more)) (not_ended ends here more after)
    ∙ ap (λ (o : Option FrameType). types_from false o here more (types_until ends more)) p.0
    ∙ ap (λ (ts : List Placed). read_map (λ more. ty ∷ more) (types_until ends ts)) p.1

pub wrong_any : (A B : Type 0) (stop : Stop) (rest : List Placed) → Stops {A = A} stop (Wrong rest) → Stops {A = B} stop (Wrong rest)
wrong_any A B stops.Memory rest s = tt
wrong_any A B (stops.Wrong line column) rest s = s
wrong_any A B (stops.Large line) rest s = s
wrong_any A B stops.Missing rest s = s

pub got_never : {A B : Type 0} (stop : Stop) (a : A) (rest : List Placed) (read : Read B) → Stops {A = A} stop (Got a rest) → Stops {A = B} stop read
got_never stops.Memory a rest read s = tt
got_never (stops.Wrong line column) a rest read s = absurd s
got_never (stops.Large line) a rest read s = absurd s
got_never stops.Missing a rest read s = absurd s

no_type_then : (o : Option FrameType) (here : Placed) (more : List Placed) (read : Read (List FrameType)) (stop : Stop) → Stops stop (said_by any_size o here more) → Stops stop (types_from false o here more read)
no_type_then None here more read stop s = wrong_any FrameType (List FrameType) stop (here ∷ more) s
no_type_then (Some ty) here more read stop s = got_never stop ty more (types_from false (Some ty) here more read) s

until_no_type : (ends : Token → Bool) (tokens : List Placed) (stop : Stop) → AfterEnd ends tokens None → Stops stop (frame_type tokens) → Stops stop (types_until ends tokens)
unfolding types_until
until_no_type ends [] stop after s = wrong_any FrameType (List FrameType) stop [] s
until_no_type ends (here ∷ more) stop after s =
    subst (λ (t : Bool). Stops stop (types_from t (type_of here.token) here more (types_until ends more))) (sym (not_ended ends here more after))
    (no_type_then (type_of here.token) here more (types_until ends more) stop s)

pub until_end : (ends : Token → Bool) (prefix : List FrameType) (tokens rest : List Placed) (all : Read (List FrameType)) → AfterEnd ends tokens (Some rest)
    → read_map (λ more. prefix ++ more) (types_until ends tokens) ≡ all → all ≡ Got prefix rest
until_end ends prefix tokens rest all after inv =
    sym inv ∙ ap (read_map (λ more. prefix ++ more)) (until_none ends tokens rest after) ∙ ap (λ (ts : List FrameType). Got ts rest) (append-nil prefix)

pub until_more : (ends : Token → Bool) (prefix : List FrameType) (ty : FrameType) (tokens rest : List Placed) (all : Read (List FrameType)) → AfterEnd ends tokens None → frame_type tokens ≡ Got ty rest
    → read_map (λ more. prefix ++ more) (types_until ends tokens) ≡ all → read_map (λ more. (prefix ++ ty ∷ []) ++ more) (types_until ends rest) ≡ all
until_more ends prefix ty tokens rest all after e inv =
    prefix_more prefix ty (types_until ends rest) ∙ ap (read_map (λ more. prefix ++ more)) (sym (until_one ends tokens rest ty after e)) ∙ inv

pub until_stop : (ends : Token → Bool) (prefix : List FrameType) (tokens : List Placed) (stop : Stop) (all : Read (List FrameType)) → AfterEnd ends tokens None → Stops stop (frame_type tokens)
    → read_map (λ more. prefix ++ more) (types_until ends tokens) ≡ all → Stops stop all
until_stop ends prefix tokens stop all after s inv =
    subst (λ (r : Read (List FrameType)). Stops stop r) inv (stop_map (λ more. prefix ++ more) stop (types_until ends tokens) (until_no_type ends tokens stop after s))

-- ---- to the line's end

pub up_to_none : (prefix : List FrameType) (tokens rest : List Placed) → line_end tokens ≡ Got tt rest → read_map (λ more. prefix ++ more) (types_up_to 0 tokens) ≡ Got prefix rest
unfolding types_up_to
up_to_none prefix tokens rest e =
    ap (λ (r : Read ⊤). read_map (λ more. prefix ++ more) (read_map (λ (x : ⊤). []) r)) e ∙ ap (λ (ts : List FrameType). Got ts rest) (append-nil prefix)

pub up_to_none_stop : (prefix : List FrameType) (tokens : List Placed) (stop : Stop) → Stops stop (line_end tokens) → Stops stop (read_map (λ more. prefix ++ more) (types_up_to 0 tokens))
unfolding types_up_to
up_to_none_stop prefix tokens stop s =
    stop_map (λ (more : List FrameType). prefix ++ more) stop (read_map (λ (x : ⊤). []) (line_end tokens)) (stop_map (λ (x : ⊤). []) stop (line_end tokens) s)

pub up_to_end : (n : ℕ) (prefix : List FrameType) (tokens rest : List Placed) → AfterEnd is_end tokens (Some rest) → read_map (λ more. prefix ++ more) (types_up_to (suc n) tokens) ≡ Got prefix rest
unfolding types_up_to
up_to_end n prefix [] rest after = absurd (cc)
up_to_end n prefix (here ∷ more) rest after =
    let p = is_ended is_end here more rest after in
    ap (λ (t : Bool). read_map (λ types. prefix ++ types) (types_from t (type_of here.token) here more (types_up_to n more))) p.0
    ∙ ap (λ (ts : List FrameType). Got ts more) (append-nil prefix) ∙ ap (λ (ts : List Placed). Got prefix ts) p.1

up_to_one : (n : ℕ) (tokens rest : List Placed) (ty : FrameType) → AfterEnd is_end tokens None → frame_type tokens ≡ Got ty rest
    → types_up_to (suc n) tokens ≡ read_map (λ more. ty ∷ more) (types_up_to n rest)
unfolding types_up_to
up_to_one n [] rest ty after e = absurd (cc)
up_to_one n (here ∷ more) rest ty after e =
    let p = said (type_of here.token) here more rest ty e in
    ap (λ (t : Bool). types_from t (type_of here.token) here more (types_up_to n more)) (not_ended is_end here more after)
    ∙ ap (λ (o : Option FrameType). types_from false o here more (types_up_to n more)) p.0
    ∙ ap (λ (ts : List Placed). read_map (λ more. ty ∷ more) (types_up_to n ts)) p.1

pub up_to_more : (n : ℕ) (prefix : List FrameType) (ty : FrameType) (tokens rest : List Placed) → AfterEnd is_end tokens None → frame_type tokens ≡ Got ty rest
    → read_map (λ more. (prefix ++ ty ∷ []) ++ more) (types_up_to n rest) ≡ read_map (λ more. prefix ++ more) (types_up_to (suc n) tokens)
up_to_more n prefix ty tokens rest after e =
    prefix_more prefix ty (types_up_to n rest) ∙ ap (read_map (λ more. prefix ++ more)) (sym (up_to_one n tokens rest ty after e))

up_to_no_type : (n : ℕ) (tokens : List Placed) (stop : Stop) → AfterEnd is_end tokens None → Stops stop (frame_type tokens) → Stops stop (types_up_to (suc n) tokens)
unfolding types_up_to
up_to_no_type n [] stop after s = wrong_any FrameType (List FrameType) stop [] s
up_to_no_type n (here ∷ more) stop after s =
    subst (λ (t : Bool). Stops stop (types_from t (type_of here.token) here more (types_up_to n more))) (sym (not_ended is_end here more after))
    (no_type_then (type_of here.token) here more (types_up_to n more) stop s)

pub up_to_stop : (n : ℕ) (prefix : List FrameType) (tokens : List Placed) (stop : Stop) → AfterEnd is_end tokens None → Stops stop (frame_type tokens)
    → Stops stop (read_map (λ more. prefix ++ more) (types_up_to (suc n) tokens))
up_to_stop n prefix tokens stop after s = stop_map (λ (more : List FrameType). prefix ++ more) stop (types_up_to (suc n) tokens) (up_to_no_type n tokens stop after s)

-- ---- in turn

pub then_stops : {A B : Type 0} (stop : Stop) (read : Read A) (next : Reader B) → Stops stop read → Stops stop (read_then read next)
then_stops stops.Memory read next s = tt
then_stops (stops.Wrong line column) (Got a rest) next s = absurd s
then_stops (stops.Wrong line column) (Wrong rest) next s = s
then_stops (stops.Wrong line column) (Large rest) next s = s
then_stops (stops.Large line) (Got a rest) next s = absurd s
then_stops (stops.Large line) (Wrong rest) next s = s
then_stops (stops.Large line) (Large rest) next s = s
then_stops stops.Missing (Got a rest) next s = absurd s
then_stops stops.Missing (Wrong rest) next s = s
then_stops stops.Missing (Large rest) next s = s
