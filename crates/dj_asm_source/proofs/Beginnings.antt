-- Lines that follow their order begin a source, since whatever the order leaves to come can come.
use Rattle.std.proofs.Common.{◌≡◌, ℕ, pos, true, List, [], ◌∷◌, ◌++◌, Some, codes, refl, sym, ap, ◌∙◌, subst, inl, arith}
use Rattle.std.specs.List.{flat_map, AllByRecursion, AllZip}
use Rattle.std.proofs.lemmas.Grind.{flat_map-append}
use Rattle.dj_names.specs.trusted.Names.{IsClassName}
use Rattle.dj_asm_tokens.specs.trusted.Words.{Token, Word, LineEnd}
use Rattle.dj_asm_source.specs.trusted.Items.{Item, Says, SaysFlags, SaysCalled, SaysPlainNumber}
use Rattle.dj_asm_tokens.specs.trusted.Mnemonics.{mnemonics}
use Rattle.dj_asm_source.specs.trusted.Lines.{Line, Class, Super, Stack, Locals, Does, End, Plain, IsLine, IsSized}
use Rattle.dj_asm_source.specs.trusted.Sources.{Source, IsSizedSource, line_items, lines_of}
use Rattle.dj_asm_source.specs.Order.{State, AtClass, AtVersion, AtSuper, AtInterfaces, AtFields, AtMethods, AtStack, AtLocals, InBody, InFrame, run, is_final}
use Rattle.dj_asm_source.specs.trusted.Faults.{Begins}
use Rattle.dj_asm_source.proofs.OrderLaws.{run_append}
use Rattle.dj_asm_source.proofs.OrderSources.{source_of}
use Rattle.dj_ops.specs.trusted.Forms.{form_of}

-- ---- lists

zip_append : (xs ys : List Item) (ts us : List Token) → AllZip Says xs ts → AllZip Says ys us → AllZip Says (xs ++ ys) (ts ++ us)
zip_append [] ys [] us said more = more
zip_append [] ys (t ∷ ts) us said more = absurd said
zip_append (x ∷ xs) ys [] us said more = absurd said
zip_append (x ∷ xs) ys (t ∷ ts) us (first, said) more = (first, zip_append xs ys ts us said more)

all_append : (P : Line → Type 0) (xs ys : List Line) → AllByRecursion P xs → AllByRecursion P ys → AllByRecursion P (xs ++ ys)
all_append P [] ys all more = more
all_append P (x ∷ xs) ys (first, all) more = (first, all_append P xs ys all more)

-- ---- lines that end a text

abbrev letter : List ℕ
letter = 65 ∷ []

letter_name : IsClassName letter
letter_name = record {
  parts = letter ∷ [];
  some = λ e. absurd cc;
  names = (record { some = λ e. absurd cc; bytes = (record { not_dot = λ e. omega (arith, e); not_semicolon = λ e. omega (arith, e); not_bracket = λ e. omega (arith, e); not_slash = λ e. omega (arith, e) }, tt) }, tt);
  joined = refl;
}

abbrev pub closing : State → List Line
closing AtClass = Class 33 letter ∷ Super letter ∷ []
closing AtVersion = Super letter ∷ []
closing AtSuper = Super letter ∷ []
closing AtInterfaces = []
closing AtFields = []
closing AtMethods = []
closing AtStack = Stack (pos 0) ∷ Locals (pos 0) ∷ End ∷ []
closing AtLocals = Locals (pos 0) ∷ End ∷ []
closing InBody = End ∷ []
closing InFrame = Does (Plain 0) ∷ End ∷ []

pub closing_final : (state : State) → is_final (run (Some state) (closing state)) ≡ true
unfolding run
closing_final AtClass = refl
closing_final AtVersion = refl
closing_final AtSuper = refl
closing_final AtInterfaces = refl
closing_final AtFields = refl
closing_final AtMethods = refl
closing_final AtStack = refl
closing_final AtLocals = refl
closing_final InBody = refl
closing_final InFrame = refl

pub closing_lines : (state : State) → AllByRecursion IsLine (closing state)
unfolding form_of
closing_lines AtClass = (letter_name, (letter_name, tt))
closing_lines AtVersion = (letter_name, tt)
closing_lines AtSuper = (letter_name, tt)
closing_lines AtInterfaces = tt
closing_lines AtFields = tt
closing_lines AtMethods = tt
closing_lines AtStack = (tt, (tt, (tt, tt)))
closing_lines AtLocals = (tt, (tt, tt))
closing_lines InBody = (tt, tt)
closing_lines InFrame = (refl, (tt, tt))

pub closing_sizes : (state : State) → AllByRecursion IsSized (closing state)
closing_sizes AtClass = (tt, (tt, tt))
closing_sizes AtVersion = (tt, tt)
closing_sizes AtSuper = (tt, tt)
closing_sizes AtInterfaces = tt
closing_sizes AtFields = tt
closing_sizes AtMethods = tt
closing_sizes AtStack = ((0, refl, omega arith), ((0, refl, omega arith), (tt, tt)))
closing_sizes AtLocals = ((0, refl, omega arith), (tt, tt))
closing_sizes InBody = (tt, tt)
closing_sizes InFrame = (tt, (tt, tt))

abbrev end_tokens : List Token
end_tokens = Word (codes ".end") ∷ LineEnd ∷ []

abbrev super_tokens : List Token
super_tokens = Word (codes ".super") ∷ Word letter ∷ LineEnd ∷ []

abbrev locals_tokens : List Token
locals_tokens = Word (codes ".locals") ∷ Word (codes "0") ∷ LineEnd ∷ end_tokens

abbrev pub closing_tokens : State → List Token
closing_tokens AtClass = Word (codes ".class") ∷ Word (codes "21") ∷ Word letter ∷ LineEnd ∷ super_tokens
closing_tokens AtVersion = super_tokens
closing_tokens AtSuper = super_tokens
closing_tokens AtInterfaces = []
closing_tokens AtFields = []
closing_tokens AtMethods = []
closing_tokens AtStack = Word (codes ".stack") ∷ Word (codes "0") ∷ LineEnd ∷ locals_tokens
closing_tokens AtLocals = locals_tokens
closing_tokens InBody = end_tokens
closing_tokens InFrame = Word (codes "nop") ∷ LineEnd ∷ end_tokens

flags : SaysFlags 33 (Word (codes "21"))
flags = record { digits = codes "21"; word = refl; numeral = (omega arith, (omega arith, (omega arith, tt))); few = omega arith; value = refl }

name : SaysCalled [] letter (Word letter)
name = record { units = letter; word = refl; value = refl }

none : SaysPlainNumber (pos 0) (Word (codes "0"))
none = record { digits = codes "0"; word = refl; numeral = (omega arith, (omega arith, tt)); value = refl }

pub closing_said : (state : State) → AllZip Says (flat_map line_items (closing state)) (closing_tokens state)
unfolding mnemonics
closing_said AtClass = (refl, (flags, (name, (refl, (refl, (name, (refl, tt)))))))
closing_said AtVersion = (refl, (name, (refl, tt)))
closing_said AtSuper = (refl, (name, (refl, tt)))
closing_said AtInterfaces = tt
closing_said AtFields = tt
closing_said AtMethods = tt
closing_said AtStack = (refl, (inl none, (refl, (refl, (inl none, (refl, (refl, (refl, tt))))))))
closing_said AtLocals = (refl, (inl none, (refl, (refl, (refl, tt)))))
closing_said InBody = (refl, (refl, tt))
closing_said InFrame = (refl, (refl, (refl, (refl, tt))))

-- ---- beginnings

-- whole lines that follow their order, allowed and sized, begin a source
pub lines_begin : (state : State) (lines : List Line) (tokens : List Token) → run (Some AtClass) lines ≡ Some state
    → AllByRecursion IsLine lines → AllByRecursion IsSized lines → AllZip Says (flat_map line_items lines) tokens → Begins IsSizedSource tokens
lines_begin state lines tokens is allowed sized said = begun (source_of (lines ++ closing state) final) where
  final : is_final (run (Some AtClass) (lines ++ closing state)) ≡ true
  final = ap is_final (run_append (Some AtClass) lines (closing state) ∙ ap (λ at. run at (closing state)) is) ∙ closing_final state

  begun : (s : Source) × (lines ++ closing state ≡ lines_of s) → Begins IsSizedSource tokens
  begun (s, e) = record {
    source = s;
    such = (
      subst (AllByRecursion IsLine) e (all_append IsLine lines (closing state) allowed (closing_lines state)),
      subst (AllByRecursion IsSized) e (all_append IsSized lines (closing state) sized (closing_sizes state)),
    );
    rest = closing_tokens state;
    read = subst (λ all. AllZip Says (flat_map line_items all) (tokens ++ closing_tokens state)) e
        (subst (λ items. AllZip Says items (tokens ++ closing_tokens state)) (sym (flat_map-append line_items lines (closing state)))
        (zip_append (flat_map line_items lines) (flat_map line_items (closing state)) tokens (closing_tokens state) said (closing_said state)));
  }
