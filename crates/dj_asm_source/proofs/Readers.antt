-- What a reader must do to read a language, and how readers in sequence, by choice and by meaning do it.
use Rattle.std.proofs.Common.{◌≡◌, List, [], ◌∷◌, ◌++◌, refl, sym, ap, ◌∙◌, subst, append_assoc}
use Rattle.std.specs.List.{AllZip}
use Rattle.dj_asm_tokens.specs.trusted.Words.{Placed}
use Rattle.dj_asm_source.specs.trusted.Items.{Item, Says}
use Rattle.dj_asm_source.specs.Reading.{Read, Got, Wrong, Large, Reader, read_map, read_then, mapped, ◌&◌, got}

-- ---- languages

-- what has which items, which of it may stand, and which of it fits
pub record Lang (A : Type 0) : Type 1 where
  pub items : A → List Item
  pub is : A → Type 0
  pub fits : A → Type 0

abbrev pub SaysPlaced : Item → Placed → Type 0
SaysPlaced item placed = Says item placed.token

abbrev pub Said : List Item → List Placed → Type 0
Said items tokens = AllZip SaysPlaced items tokens

-- something that fits begins with these tokens
pub record Started {A : Type 0} (L : Lang A) (tokens : List Placed) : Type 0 where
  pub value : A
  pub is : L.is value
  pub fits : L.fits value
  pub more : List Placed
  pub said : Said (L.items value) (tokens ++ more)

-- something does, that may not fit
pub record Allowed {A : Type 0} (L : Lang A) (tokens : List Placed) : Type 0 where
  pub value : A
  pub is : L.is value
  pub more : List Placed
  pub said : Said (L.items value) (tokens ++ more)

-- ---- what is read of tokens

pub record GotFrom {A : Type 0} (L : Lang A) (tokens : List Placed) (a : A) (rest : List Placed) : Type 0 where
  pub prefix : List Placed
  pub parts : tokens ≡ prefix ++ rest
  pub is : L.is a
  pub fits : L.fits a
  pub said : Said (L.items a) prefix
  -- whatever follows, nothing else is said
  pub unique : (b : A) (us more after : List Placed) → L.is b → Said (L.items b) us → us ++ more ≡ prefix ++ after → (b ≡ a) × (more ≡ after)

-- with the first of the tokens, if there is one, and any others after it
abbrev pub and_on : List Placed → List Placed → List Placed
and_on [] after = []
and_on (here ∷ rest) after = here ∷ after

pub record WrongFrom {A : Type 0} (L : Lang A) (tokens : List Placed) (rest : List Placed) : Type 0 where
  pub prefix : List Placed
  pub parts : tokens ≡ prefix ++ rest
  pub good : Started L prefix
  pub none : (b : A) (us more after : List Placed) → L.is b → Said (L.items b) us → us ++ more ≡ prefix ++ and_on rest after → ⊥

pub record LargeFrom {A : Type 0} (L : Lang A) (tokens : List Placed) (rest : List Placed) : Type 0 where
  pub prefix : List Placed
  pub here : Placed
  pub others : List Placed
  pub rest_is : rest ≡ here ∷ others
  pub parts : tokens ≡ prefix ++ rest
  pub good : Started L prefix
  pub some : Allowed L (prefix ++ here ∷ [])
  pub none : (b : A) (us more after : List Placed) → L.is b → L.fits b → Said (L.items b) us → us ++ more ≡ prefix ++ here ∷ after → ⊥

abbrev pub ReadFrom : {A : Type 0} → Lang A → List Placed → Read A → Type 0
ReadFrom L tokens (Got a rest) = GotFrom L tokens a rest
ReadFrom L tokens (Wrong rest) = WrongFrom L tokens rest
ReadFrom L tokens (Large rest) = LargeFrom L tokens rest

-- the reader reads the language, in which something is
pub record IsReader {A : Type 0} (L : Lang A) (reader : Reader A) : Type 0 where
  pub some : Started L []
  pub each : (tokens : List Placed) → ReadFrom L tokens (reader tokens)

-- ---- two in sequence

abbrev pub both : {A B : Type 0} → Lang A → Lang B → Lang (A × B)
both L M = record { items = λ x. L.items x.0 ++ M.items x.1; is = λ x. L.is x.0 × M.is x.1; fits = λ x. L.fits x.0 × M.fits x.1 }

pub record Split (xs ys : List Item) (tokens : List Placed) : Type 0 where
  pub first : List Placed
  pub second : List Placed
  pub parts : tokens ≡ first ++ second
  pub said : Said xs first
  pub also : Said ys second

pub split : (xs ys : List Item) (tokens : List Placed) → Said (xs ++ ys) tokens → Split xs ys tokens
split [] ys tokens said = record { first = []; second = tokens; parts = refl; said = tt; also = said }
split (x ∷ xs) ys [] said = absurd said
split (x ∷ xs) ys (t ∷ ts) (reported, said) =
    let s = split xs ys ts said in
    record { first = t ∷ s.first; second = s.second; parts = ap (λ l. t ∷ l) s.parts; said = (reported, s.said); also = s.also }

pub said_append : (xs ys : List Item) (us vs : List Placed) → Said xs us → Said ys vs → Said (xs ++ ys) (us ++ vs)
said_append [] ys [] vs said more = more
said_append [] ys (t ∷ us) vs said more = absurd said
said_append (x ∷ xs) ys [] vs said more = absurd said
said_append (x ∷ xs) ys (t ∷ us) vs (reported, said) more = (reported, said_append xs ys us vs said more)

module _ {A B : Type 0} (L : Lang A) (M : Lang B) where
  -- what is begun can be finished, and something of the second said after it
  then_started : (prefix : List Placed) → Started L prefix → Started M [] → Started (both L M) prefix
  then_started prefix s m = record {
    value = (s.value, m.value);
    is = (s.is, m.is);
    fits = (s.fits, m.fits);
    more = s.more ++ m.more;
    said = subst (λ tokens. Said (L.items s.value ++ M.items m.value) tokens) (append_assoc prefix s.more m.more)
        (said_append (L.items s.value) (M.items m.value) (prefix ++ s.more) m.more s.said m.said);
  }

  then_allowed : (prefix : List Placed) → Allowed L prefix → Started M [] → Allowed (both L M) prefix
  then_allowed prefix s m = record {
    value = (s.value, m.value);
    is = (s.is, m.is);
    more = s.more ++ m.more;
    said = subst (λ tokens. Said (L.items s.value ++ M.items m.value) tokens) (append_assoc prefix s.more m.more)
        (said_append (L.items s.value) (M.items m.value) (prefix ++ s.more) m.more s.said m.said);
  }

regroup : (xs ys : List Item) (us more whole : List Placed) (s : Split xs ys us) → us ++ more ≡ whole → s.first ++ (s.second ++ more) ≡ whole
regroup xs ys us more whole s e = sym (append_assoc s.first s.second more) ∙ (ap (λ tokens. tokens ++ more) (sym s.parts) ∙ e)

module _ {A B : Type 0} (L : Lang A) (M : Lang B) (m : Started M []) where
  -- after what was got of the first
  module _ (tokens rest : List Placed) (a : A) (g : GotFrom L tokens a rest) where
    -- what was begun after it
    after_started : (prefix : List Placed) → Started M prefix → Started (both L M) (g.prefix ++ prefix)
    after_started prefix s = record {
      value = (a, s.value);
      is = (g.is, s.is);
      fits = (g.fits, s.fits);
      more = s.more;
      said = subst (λ ts. Said (L.items a ++ M.items s.value) ts) (sym (append_assoc g.prefix prefix s.more))
          (said_append (L.items a) (M.items s.value) g.prefix (prefix ++ s.more) g.said s.said);
    }

    after_allowed : (prefix : List Placed) → Allowed M prefix → Allowed (both L M) (g.prefix ++ prefix)
    after_allowed prefix s = record {
      value = (a, s.value);
      is = (g.is, s.is);
      more = s.more;
      said = subst (λ ts. Said (L.items a ++ M.items s.value) ts) (sym (append_assoc g.prefix prefix s.more))
          (said_append (L.items a) (M.items s.value) g.prefix (prefix ++ s.more) g.said s.said);
    }

    -- the second of what is said here
    second_of : (x : A × B) (us more after : List Placed) → L.is x.0 → (s : Split (L.items x.0) (M.items x.1) us) → us ++ more ≡ g.prefix ++ after → (x.0 ≡ a) × (s.second ++ more ≡ after)
    second_of x us more after is s e = g.unique x.0 s.first (s.second ++ more) after is s.said (regroup (L.items x.0) (M.items x.1) us more (g.prefix ++ after) s e)

    then_got : (b : B) (others : List Placed) → GotFrom M rest b others → GotFrom (both L M) tokens (a, b) others
    then_got b others h = record {
      prefix = g.prefix ++ h.prefix;
      parts = g.parts ∙ (ap (λ ts. g.prefix ++ ts) h.parts ∙ sym (append_assoc g.prefix h.prefix others));
      is = (g.is, h.is);
      fits = (g.fits, h.fits);
      said = said_append (L.items a) (M.items b) g.prefix h.prefix g.said h.said;
      unique = λ x us more after is said e.
          let s = split (L.items x.0) (M.items x.1) us said in
          let one = second_of x us more (h.prefix ++ after) is.0 s (e ∙ append_assoc g.prefix h.prefix after) in
          let two = h.unique x.1 s.second more after is.1 s.also one.1 in
          (ap (λ v. (v, x.1)) one.0 ∙ ap (λ v. (a, v)) two.0, two.1);
    }

    then_wrong : (others : List Placed) → WrongFrom M rest others → WrongFrom (both L M) tokens others
    then_wrong others w = record {
      prefix = g.prefix ++ w.prefix;
      parts = g.parts ∙ (ap (λ ts. g.prefix ++ ts) w.parts ∙ sym (append_assoc g.prefix w.prefix others));
      good = after_started w.prefix w.good;
      none = λ x us more after is said e.
          let s = split (L.items x.0) (M.items x.1) us said in
          let one = second_of x us more (w.prefix ++ and_on others after) is.0 s (e ∙ append_assoc g.prefix w.prefix (and_on others after)) in
          w.none x.1 s.second more after is.1 s.also one.1;
    }

    then_large : (others : List Placed) → LargeFrom M rest others → LargeFrom (both L M) tokens others
    then_large others w = record {
      prefix = g.prefix ++ w.prefix;
      here = w.here;
      others = w.others;
      rest_is = w.rest_is;
      parts = g.parts ∙ (ap (λ ts. g.prefix ++ ts) w.parts ∙ sym (append_assoc g.prefix w.prefix others));
      good = after_started w.prefix w.good;
      some = subst (Allowed (both L M)) (sym (append_assoc g.prefix w.prefix (w.here ∷ []))) (after_allowed (w.prefix ++ w.here ∷ []) w.some);
      none = λ x us more after is fits said e.
          let s = split (L.items x.0) (M.items x.1) us said in
          let one = second_of x us more (w.prefix ++ w.here ∷ after) is.0 s (e ∙ append_assoc g.prefix w.prefix (w.here ∷ after)) in
          w.none x.1 s.second more after is.1 fits.1 s.also one.1;
    }

    then_read : (x : Read B) → ReadFrom M rest x → ReadFrom (both L M) tokens (read_map (λ b. (a, b)) x)
    then_read (Got b others) h = then_got b others h
    then_read (Wrong others) w = then_wrong others w
    then_read (Large others) w = then_large others w

  first_wrong : (tokens rest : List Placed) → WrongFrom L tokens rest → WrongFrom (both L M) tokens rest
  first_wrong tokens rest w = record {
    prefix = w.prefix;
    parts = w.parts;
    good = then_started L M w.prefix w.good m;
    none = λ x us more after is said e.
        let s = split (L.items x.0) (M.items x.1) us said in
        w.none x.0 s.first (s.second ++ more) after is.0 s.said (regroup (L.items x.0) (M.items x.1) us more (w.prefix ++ and_on rest after) s e);
  }

  first_large : (tokens rest : List Placed) → LargeFrom L tokens rest → LargeFrom (both L M) tokens rest
  first_large tokens rest w = record {
    prefix = w.prefix;
    here = w.here;
    others = w.others;
    rest_is = w.rest_is;
    parts = w.parts;
    good = then_started L M w.prefix w.good m;
    some = then_allowed L M (w.prefix ++ w.here ∷ []) w.some m;
    none = λ x us more after is fits said e.
        let s = split (L.items x.0) (M.items x.1) us said in
        w.none x.0 s.first (s.second ++ more) after is.0 fits.0 s.said (regroup (L.items x.0) (M.items x.1) us more (w.prefix ++ w.here ∷ after) s e);
  }

pub in_sequence : {A B : Type 0} (L : Lang A) (M : Lang B) (next : Reader B) → IsReader M next → (tokens : List Placed) (x : Read A) → ReadFrom L tokens x
    → ReadFrom (both L M) tokens (read_then x next)
in_sequence L M next r tokens (Got a rest) g = then_read L M r.some tokens rest a g (next rest) (r.each rest)
in_sequence L M next r tokens (Wrong rest) w = first_wrong L M r.some tokens rest w
in_sequence L M next r tokens (Large rest) w = first_large L M r.some tokens rest w

pub sequence_reads : {A B : Type 0} (L : Lang A) (M : Lang B) (first : Reader A) (next : Reader B) → IsReader L first → IsReader M next → IsReader (both L M) (first & next)
sequence_reads L M first next r q = record { some = then_started L M [] r.some q.some; each = λ tokens. in_sequence L M next q tokens (first tokens) (r.each tokens) }

-- ---- by meaning

-- what f makes of such values
abbrev pub IsMade : {A C : Type 0} → (A → C) → (A → Type 0) → C → Type 0
IsMade {A} f is c = (a : A) × (c ≡ f a) × is a

-- how a language is that of other values
pub record IsSeenAs {A C : Type 0} (L : Lang A) (N : Lang C) (f : A → C) : Type 0 where
  pub items : (a : A) → L.is a → N.items (f a) ≡ L.items a
  pub is : (a : A) → L.is a → N.is (f a)
  pub fits : (a : A) → L.fits a → N.fits (f a)
  pub unfit : (a : A) → N.fits (f a) → L.fits a
  pub onto : (c : C) → N.is c → IsMade f L.is c

module _ {A C : Type 0} (L : Lang A) (N : Lang C) (f : A → C) (seen : IsSeenAs L N f) where
  seen_said : (a : A) (us : List Placed) → L.is a → Said (L.items a) us → Said (N.items (f a)) us
  seen_said a us is said = subst (λ items. Said items us) (sym (seen.items a is)) said

  seen_started : (us : List Placed) → Started L us → Started N us
  seen_started us s = record { value = f s.value; is = seen.is s.value s.is; fits = seen.fits s.value s.fits; more = s.more; said = seen_said s.value (us ++ s.more) s.is s.said }

  seen_allowed : (us : List Placed) → Allowed L us → Allowed N us
  seen_allowed us s = record { value = f s.value; is = seen.is s.value s.is; more = s.more; said = seen_said s.value (us ++ s.more) s.is s.said }

  made_said : (c : C) (us : List Placed) (m : IsMade f L.is c) → Said (N.items c) us → Said (L.items m.0) us
  made_said c us m said = subst (λ items. Said items us) (ap N.items m.1 ∙ seen.items m.0 m.2) said

  pub seen_read : (tokens : List Placed) (x : Read A) → ReadFrom L tokens x → ReadFrom N tokens (read_map f x)
  seen_read tokens (Got a rest) g = record {
    prefix = g.prefix;
    parts = g.parts;
    is = seen.is a g.is;
    fits = seen.fits a g.fits;
    said = seen_said a g.prefix g.is g.said;
    unique = λ c us more after is said e.
        let m = seen.onto c is in
        let one = g.unique m.0 us more after m.2 (made_said c us m said) e in
        (m.1 ∙ ap f one.0, one.1);
  }
  seen_read tokens (Wrong rest) w = record {
    prefix = w.prefix;
    parts = w.parts;
    good = seen_started w.prefix w.good;
    none = λ c us more after is said e. let m = seen.onto c is in w.none m.0 us more after m.2 (made_said c us m said) e;
  }
  seen_read tokens (Large rest) w = record {
    prefix = w.prefix;
    here = w.here;
    others = w.others;
    rest_is = w.rest_is;
    parts = w.parts;
    good = seen_started w.prefix w.good;
    some = seen_allowed (w.prefix ++ w.here ∷ []) w.some;
    none = λ c us more after is fits said e.
        let m = seen.onto c is in
        w.none m.0 us more after m.2 (seen.unfit m.0 (subst N.fits m.1 fits)) (made_said c us m said) e;
  }

pub mapped_reads : {A C : Type 0} (L : Lang A) (N : Lang C) (f : A → C) (reader : Reader A) → IsSeenAs L N f → IsReader L reader → IsReader N (mapped f reader)
mapped_reads L N f reader seen r = record { some = seen_started L N f seen [] r.some; each = λ tokens. seen_read L N f seen tokens (reader tokens) (r.each tokens) }

-- ---- nothing

-- what alone is in the language, and has no items
pub got_reads : {A : Type 0} (L : Lang A) (a : A) → L.items a ≡ [] → L.is a → L.fits a → ((b : A) → L.is b → b ≡ a) → IsReader L (got a)
got_reads {A} L a none i f only = record { some = record { value = a; is = i; fits = f; more = []; said = subst (λ items. Said items []) (sym none) tt }; each = each } where
  empty : (items : List Item) (us more after : List Placed) → items ≡ [] → Said items us → us ++ more ≡ after → more ≡ after
  empty items [] more after e said same = same
  empty [] (u ∷ us) more after e said same = absurd said
  empty (x ∷ items) (u ∷ us) more after e said same = absurd cc

  each : (tokens : List Placed) → GotFrom L tokens a tokens
  each tokens = record {
    prefix = [];
    parts = refl;
    is = i;
    fits = f;
    said = subst (λ items. Said items []) (sym none) tt;
    unique = λ b us more after j said e. (only b j, empty (L.items b) us more after (ap L.items (only b j) ∙ none) said e);
  }
