-- Walks over a text byte by byte, and the topics and patterns that they find.
use Rattle.std.proofs.Common.{◌≡◌, ℕ, zero, suc, ◌+◌, ◌-◌, ◌<◌, ◌≤◌, List, [], ◌∷◌, ◌++◌, ap, sym, ◌∙◌, refl, subst, cond, arith, Bool, true, false, length, take, drop, codes, Option, Some, None, length-append}
use Rattle.std.specs.Prelude.{◌==◌, ◌&&◌, not, is_some}
use Rattle.std.specs.List.{list_all}
use Rattle.std.specs.Str.{bytes_eq}
use Rattle.std.proofs.lemmas.Bool.{eqb-true}
use Rattle.std.proofs.lemmas.List.{take-append-drop}
use Rattle.std.proofs.lemmas.Slice.Eq.{bytes_eq-Decides}
use Rattle.std.proofs.Math.Seq.{drop-append_seam}
use Rattle.prop_map.specs.Words.{is_empty}
use Rattle.event_admin.specs.Beginnings.{BeginsOne, IsLongest}
use Rattle.event_admin.specs.Inside.{Told, pattern_end, topic_end}
use Rattle.event_admin.specs.Patterns.{Form, AllTopics, AllUnder, OneTopic, ends_below, front_of, if_topic, is_pattern}
use Rattle.event_admin.specs.Topics.{between_slashes, in_front, is_token, is_token_byte, is_topic}

clash : {A : Type 0} (b : Bool) → b ≡ true → b ≡ false → A
clash b e f = cc

-- ---- what a walk finds

-- the text goes on as a topic does, at the beginning of a token or within one
abbrev pub is_topic_from : Bool → List ℕ → Bool
is_topic_from fresh [] = not fresh
is_topic_from fresh (b ∷ bs) = cond (is_token_byte b) (is_topic_from false bs) ((b == 47 && not fresh) && is_topic_from true bs)

-- the same for a pattern
abbrev pub is_pattern_from : Bool → List ℕ → Bool
is_pattern_from fresh [] = not fresh
is_pattern_from fresh (b ∷ bs) = cond (is_token_byte b) (is_pattern_from false bs) (cond (b == 47 && not fresh) (is_pattern_from true bs) ((b == 42 && fresh) && is_empty bs))

-- the first part has begun
abbrev begun : List (List ℕ) → Bool
begun [] = true
begun (p ∷ ps) = list_all is_token_byte p && list_all is_token ps

no_token : (b n : ℕ) → is_token_byte n ≡ false → (b == n) ≡ true → is_token_byte b ≡ false
no_token b n none e = ap is_token_byte (eqb-true b n e) ∙ none

front_all : (b : ℕ) (ps : List (List ℕ)) → list_all is_token (in_front b ps) ≡ (is_token_byte b && begun ps)
front_all b [] = by (is_token_byte b) where
  by : (t : Bool) → ((t && true) && true) ≡ (t && true)
  by true = refl
  by false = refl
front_all b (p ∷ ps) = by (is_token_byte b) where
  by : (t : Bool) → ((t && list_all is_token_byte p) && list_all is_token ps) ≡ (t && begun (p ∷ ps))
  by true = refl
  by false = refl

front_begun : (b : ℕ) (ps : List (List ℕ)) → begun (in_front b ps) ≡ (is_token_byte b && begun ps)
front_begun b [] = by (is_token_byte b) where
  by : (t : Bool) → ((t && true) && true) ≡ (t && true)
  by true = refl
  by false = refl
front_begun b (p ∷ ps) = by (is_token_byte b) where
  by : (t : Bool) → ((t && list_all is_token_byte p) && list_all is_token ps) ≡ (t && begun (p ∷ ps))
  by true = refl
  by false = refl

-- what is a topic by its parts is one by the walk
walks : (bs : List ℕ) → (is_topic_from true bs ≡ list_all is_token (between_slashes bs)) × (is_topic_from false bs ≡ begun (between_slashes bs))
walks [] = (refl, refl)
walks (b ∷ bs) = by (is_token_byte b) (b == 47) refl refl (walks bs) where
  ps : List (List ℕ)
  ps = between_slashes bs

  by : (t s : Bool) → is_token_byte b ≡ t → (b == 47) ≡ s → (is_topic_from true bs ≡ list_all is_token (between_slashes bs)) × (is_topic_from false bs ≡ begun (between_slashes bs))
      → (is_topic_from true (b ∷ bs) ≡ list_all is_token (between_slashes (b ∷ bs))) × (is_topic_from false (b ∷ bs) ≡ begun (between_slashes (b ∷ bs)))
  by true true e f h = clash (is_token_byte b) e (no_token b 47 refl f)
  by true false e f h = (
    (ap (λ t. cond t (is_topic_from false bs) ((b == 47 && false) && is_topic_from true bs)) e ∙ h.1 ∙ sym (ap (λ s. list_all is_token (cond s ([] ∷ between_slashes bs) (in_front b (between_slashes bs)))) f ∙ front_all b (between_slashes bs) ∙ ap (λ t. t && begun (between_slashes bs)) e)),
    (ap (λ t. cond t (is_topic_from false bs) ((b == 47 && true) && is_topic_from true bs)) e ∙ h.1 ∙ sym (ap (λ s. begun (cond s ([] ∷ between_slashes bs) (in_front b (between_slashes bs)))) f ∙ front_begun b (between_slashes bs) ∙ ap (λ t. t && begun (between_slashes bs)) e)),
  )
  by false true e f h = (
    ((λ i. cond (e i) (is_topic_from false bs) ((f i && false) && is_topic_from true bs)) ∙ sym (ap (λ s. list_all is_token (cond s ([] ∷ between_slashes bs) (in_front b (between_slashes bs)))) f)),
    ((λ i. cond (e i) (is_topic_from false bs) ((f i && true) && is_topic_from true bs)) ∙ h.0 ∙ sym (ap (λ s. begun (cond s ([] ∷ between_slashes bs) (in_front b (between_slashes bs)))) f)),
  )
  by false false e f h = (
    ((λ i. cond (e i) (is_topic_from false bs) ((f i && false) && is_topic_from true bs)) ∙ sym (ap (λ s. list_all is_token (cond s ([] ∷ between_slashes bs) (in_front b (between_slashes bs)))) f ∙ front_all b (between_slashes bs) ∙ ap (λ t. t && begun (between_slashes bs)) e)),
    ((λ i. cond (e i) (is_topic_from false bs) ((f i && true) && is_topic_from true bs)) ∙ sym (ap (λ s. begun (cond s ([] ∷ between_slashes bs) (in_front b (between_slashes bs)))) f ∙ front_begun b (between_slashes bs) ∙ ap (λ t. t && begun (between_slashes bs)) e)),
  )

pub topic_walk : (text : List ℕ) → is_topic_from true text ≡ is_topic text
topic_walk text = (walks text).0

-- ---- how far a walk comes

-- so many bytes behind `at` has the longest beginning of a text with which one that passes begins
abbrev Ends : (List ℕ → Bool) → ℕ → List ℕ → ℕ → Type 0
Ends passes at bs end = (k : ℕ) × (end ≡ at + k) × (k ≤ length bs) × BeginsOne passes (take k bs) × ((n : ℕ) → k < n → n ≤ length bs → (rest : List ℕ) → passes (take n bs ++ rest) ≡ false)

-- one byte more, after which the walk goes on
ends_later : (now then : List ℕ → Bool) (at : ℕ) (b : ℕ) (bs : List ℕ) (end : ℕ) → ((xs : List ℕ) → now (b ∷ xs) ≡ then xs) → Ends then (at + 1) bs end → Ends now at (b ∷ bs) end
ends_later now then at b bs end step h = (
  suc h.0,
  (let e : end ≡ (at + 1) + h.0 = h.1 in omega arith),
  (let l : h.0 ≤ length bs = h.2 in omega arith),
  (h.3.0, step (take h.0 bs ++ h.3.0) ∙ h.3.1),
  λ n less within rest. later n less within rest,
)
  where
    later : (n : ℕ) → suc h.0 < n → n ≤ length (b ∷ bs) → (rest : List ℕ) → now (take n (b ∷ bs) ++ rest) ≡ false
    later zero less within rest = absurd (omega arith)
    later (suc m) less within rest = step (take m bs ++ rest) ∙ h.4 m (omega arith) (let w : suc m ≤ suc (length bs) = within in omega arith) rest

-- a byte with which none goes on
ends_here : (now : List ℕ → Bool) (at : ℕ) (b : ℕ) (bs : List ℕ) → now (97 ∷ []) ≡ true → ((xs : List ℕ) → now (b ∷ xs) ≡ false) → Ends now at (b ∷ bs) at
ends_here now at b bs any stop = (0, (let e : at ≡ at + 0 = omega arith in e), (let l : 0 ≤ suc (length bs) = omega arith in l), (97 ∷ [], any), λ n less within rest. none n less within rest)
  where
    none : (n : ℕ) → 0 < n → n ≤ length (b ∷ bs) → (rest : List ℕ) → now (take n (b ∷ bs) ++ rest) ≡ false
    none zero less within rest = absurd (omega arith)
    none (suc m) less within rest = stop (take m bs ++ rest)

-- the end of the text
ends_there : (now : List ℕ → Bool) (at : ℕ) → now (97 ∷ []) ≡ true → Ends now at [] at
ends_there now at any = (0, (let e : at ≡ at + 0 = omega arith in e), (let l : 0 ≤ 0 = omega arith in l), (97 ∷ [], any), λ n less within rest. absurd (let w : n ≤ 0 = within in omega arith))

any_topic : (fresh : Bool) → is_topic_from fresh (97 ∷ []) ≡ true
any_topic fresh = refl

any_pattern : (fresh : Bool) → is_pattern_from fresh (97 ∷ []) ≡ true
any_pattern fresh = refl

-- what the walk for a topic answers
abbrev Says : Bool → ℕ → List ℕ → Option ℕ → Type 0
Says fresh at bs None = is_topic_from fresh bs ≡ true
Says fresh at bs (Some end) = (is_topic_from fresh bs ≡ false) × Ends (is_topic_from fresh) at bs end

says_later : (fresh then : Bool) (at : ℕ) (b : ℕ) (bs : List ℕ) (o : Option ℕ) → ((xs : List ℕ) → is_topic_from fresh (b ∷ xs) ≡ is_topic_from then xs) → Says then (at + 1) bs o → Says fresh at (b ∷ bs) o
says_later fresh then at b bs None step h = step bs ∙ h
says_later fresh then at b bs (Some end) step h = (step bs ∙ h.0, ends_later (is_topic_from fresh) (is_topic_from then) at b bs end step h.1)

topic_says : (fresh : Bool) (at : ℕ) (bs : List ℕ) → Says fresh at bs (topic_end fresh at bs)
topic_says true at [] = (refl, ends_there (is_topic_from true) at refl)
topic_says false at [] = refl
topic_says fresh at (b ∷ bs) = by (is_token_byte b) (b == 47) fresh refl refl (λ f. topic_says f (at + 1) bs) where
  by : (t s f : Bool) → is_token_byte b ≡ t → (b == 47) ≡ s → ((f : Bool) → Says f (at + 1) bs (topic_end f (at + 1) bs)) → Says f at (b ∷ bs) (topic_end f at (b ∷ bs))
  by true s f e g h = subst (Says f at (b ∷ bs)) (sym (ap (λ t. cond t (topic_end false (at + 1) bs) (cond (b == 47 && not f) (topic_end true (at + 1) bs) (Some at))) e))
      (says_later f false at b bs (topic_end false (at + 1) bs) (λ xs. ap (λ t. cond t (is_topic_from false xs) ((b == 47 && not f) && is_topic_from true xs)) e) (h false))
  by false true false e g h = subst (Says false at (b ∷ bs)) (sym (λ i. cond (e i) (topic_end false (at + 1) bs) (cond (g i && true) (topic_end true (at + 1) bs) (Some at))))
      (says_later false true at b bs (topic_end true (at + 1) bs) (λ xs i. cond (e i) (is_topic_from false xs) ((g i && true) && is_topic_from true xs)) (h true))
  by false true true e g h = subst (Says true at (b ∷ bs)) (sym (λ i. cond (e i) (topic_end false (at + 1) bs) (cond (g i && false) (topic_end true (at + 1) bs) (Some at))))
      ((λ i. cond (e i) (is_topic_from false bs) ((g i && false) && is_topic_from true bs)), ends_here (is_topic_from true) at b bs refl (λ xs i. cond (e i) (is_topic_from false xs) ((g i && false) && is_topic_from true xs)))
  by false false f e g h = subst (Says f at (b ∷ bs)) (sym (λ i. cond (e i) (topic_end false (at + 1) bs) (cond (g i && not f) (topic_end true (at + 1) bs) (Some at))))
      ((λ i. cond (e i) (is_topic_from false bs) ((g i && not f) && is_topic_from true bs)), ends_here (is_topic_from f) at b bs refl (λ xs i. cond (e i) (is_topic_from false xs) ((g i && not f) && is_topic_from true xs)))

-- from the first byte on
longest_of : (passes walk : List ℕ → Bool) (text : List ℕ) (end : ℕ) → ((xs : List ℕ) → walk xs ≡ passes xs) → Ends walk 0 text end → IsLongest passes text end
longest_of passes walk text end same h =
    let e : h.0 ≡ end = (let f : end ≡ 0 + h.0 = h.1 in omega arith) in
    subst (IsLongest passes text) e record {
      within = h.2;
      begins = (h.3.0, sym (same (take h.0 text ++ h.3.0)) ∙ h.3.1);
      longest = λ n less within one. clash (passes (take n text ++ one.0)) one.1 (sym (same (take n text ++ one.0)) ∙ h.4 n less within one.0);
    }

told_by : (text : List ℕ) (o : Option ℕ) → Says true 0 text o → Told text o
told_by text None h = sym (topic_walk text) ∙ h
told_by text (Some end) h = (sym (topic_walk text) ∙ h.0, longest_of is_topic (is_topic_from true) text end topic_walk h.1)

pub topic_told : (text : List ℕ) (o : Option ℕ) → o ≡ topic_end true 0 text → Told text o
topic_told text o e = subst (Told text) (sym e) (told_by text (topic_end true 0 text) (topic_says true 0 text))

-- ---- patterns

below : (f : Bool) (w : List ℕ) → is_pattern_from f (w ++ 47 ∷ 42 ∷ []) ≡ is_topic_from f w
below true [] = refl
below false [] = refl
below f (b ∷ w) = by (is_token_byte b) (b == 47 && not f) refl refl (below false w) (below true w) where
  empty : (w : List ℕ) → is_empty (w ++ 47 ∷ 42 ∷ []) ≡ false
  empty [] = refl
  empty (c ∷ w) = refl

  none : (c : Bool) → (c && is_empty (w ++ 47 ∷ 42 ∷ [])) ≡ false
  none true = empty w
  none false = refl

  by : (t s : Bool) → is_token_byte b ≡ t → (b == 47 && not f) ≡ s → is_pattern_from false (w ++ 47 ∷ 42 ∷ []) ≡ is_topic_from false w → is_pattern_from true (w ++ 47 ∷ 42 ∷ []) ≡ is_topic_from true w
      → cond (is_token_byte b) (is_pattern_from false (w ++ 47 ∷ 42 ∷ [])) (cond (b == 47 && not f) (is_pattern_from true (w ++ 47 ∷ 42 ∷ [])) ((b == 42 && f) && is_empty (w ++ 47 ∷ 42 ∷ [])))
      ≡ cond (is_token_byte b) (is_topic_from false w) ((b == 47 && not f) && is_topic_from true w)
  by t s e g x y = (λ i. cond (e i) (x i) (cond (g i) (y i) (none (b == 42 && f) i))) ∙ at t s ∙ sym (λ i. cond (e i) (is_topic_from false w) (g i && is_topic_from true w)) where
    at : (t s : Bool) → cond t (is_topic_from false w) (cond s (is_topic_from true w) false) ≡ cond t (is_topic_from false w) (s && is_topic_from true w)
    at true s = refl
    at false true = refl
    at false false = refl

abbrev pattern_step : ℕ → List ℕ → (t s f : Bool) → Bool
pattern_step b bs t s f = cond t (is_pattern_from false bs) (cond (s && not f) (is_pattern_from true bs) ((b == 42 && f) && is_empty bs))

abbrev topic_step : List ℕ → (t s f : Bool) → Bool
topic_step bs t s f = cond t (is_topic_from false bs) ((s && not f) && is_topic_from true bs)

-- where a text is no star at its beginning, and ends with none below a topic, a walk for a pattern is one for a topic
same_walk : (f : Bool) (t : List ℕ) → (f ≡ true → t ≡ 42 ∷ [] → ⊥) → ((w : List ℕ) → t ≡ w ++ 47 ∷ 42 ∷ [] → ⊥) → is_pattern_from f t ≡ is_topic_from f t
same_walk f [] no_star no_below = refl
same_walk f (b ∷ bs) no_star no_below = by (is_token_byte b) (b == 47) f refl refl no_star (λ g apart. same_walk g bs apart (λ w e. no_below (b ∷ w) (ap (λ l. b ∷ l) e))) where
  star : (u f : Bool) (xs : List ℕ) → bs ≡ xs → (b == 42) ≡ u → (f ≡ true → b ∷ bs ≡ 42 ∷ [] → ⊥) → ((u && f) && is_empty xs) ≡ false
  star true true [] e g apart = absurd (apart refl (λ i. eqb-true b 42 g i ∷ e i))
  star true true (x ∷ xs) e g apart = refl
  star true false xs e g apart = refl
  star false f xs e g apart = refl

  by : (t s f : Bool) → is_token_byte b ≡ t → (b == 47) ≡ s → (f ≡ true → b ∷ bs ≡ 42 ∷ [] → ⊥) → ((g : Bool) → (g ≡ true → bs ≡ 42 ∷ [] → ⊥) → is_pattern_from g bs ≡ is_topic_from g bs)
      → pattern_step b bs (is_token_byte b) (b == 47) f ≡ topic_step bs (is_token_byte b) (b == 47) f
  by true s f e g apart h = (λ i. pattern_step b bs (e i) (g i) f) ∙ h false (λ x _. clash false x refl) ∙ sym (λ i. topic_step bs (e i) (g i) f)
  by false true false e g apart h = (λ i. pattern_step b bs (e i) (g i) false) ∙ h true (λ _ x. no_below [] (λ i. eqb-true b 47 g i ∷ x i)) ∙ sym (λ i. topic_step bs (e i) (g i) false)
  by false true true e g apart h = (λ i. pattern_step b bs (e i) (g i) true) ∙ star (b == 42) true bs refl refl apart ∙ sym (λ i. topic_step bs (e i) (g i) true)
  by false false f e g apart h = (λ i. pattern_step b bs (e i) (g i) f) ∙ star (b == 42) f bs refl refl apart ∙ sym (λ i. topic_step bs (e i) (g i) f)

if_topic_is : (text : List ℕ) (form : Form) → is_some (if_topic text form) ≡ is_topic text
if_topic_is text form = by (is_topic text) where
  by : (b : Bool) → is_some (cond b (Some form) None) ≡ b
  by true = refl
  by false = refl

ends_so : (w : List ℕ) → ends_below (w ++ 47 ∷ 42 ∷ []) ≡ true
ends_so w = let e : length (w ++ 47 ∷ 42 ∷ []) - 2 ≡ length w = (let l : length (w ++ 47 ∷ 42 ∷ []) ≡ length w + 2 = length-append w (47 ∷ 42 ∷ []) in omega arith) in
    ap (λ n. bytes_eq (drop n (w ++ 47 ∷ 42 ∷ [])) (47 ∷ 42 ∷ [])) e ∙ ap (λ l. bytes_eq l (47 ∷ 42 ∷ [])) (drop-append_seam w (47 ∷ 42 ∷ []))

abbrev parted : List ℕ → Bool → Bool → Bool
parted text star below = is_some (cond star (Some AllTopics) (cond below (if_topic (front_of text) (AllUnder (front_of text))) (if_topic text (OneTopic text))))

-- what is a pattern by its parts is one by the walk
pub pattern_walk : (text : List ℕ) → is_pattern_from true text ≡ is_pattern text
pattern_walk text = by (bytes_eq text (codes "*")) (ends_below text) refl refl where
  by : (s e : Bool) → bytes_eq text (codes "*") ≡ s → ends_below text ≡ e → is_pattern_from true text ≡ parted text (bytes_eq text (codes "*")) (ends_below text)
  by true e f g = let same : text ≡ codes "*" = (bytes_eq-Decides text (codes "*")).0 f in ap (is_pattern_from true) same ∙ sym (ap (λ s. parted text s (ends_below text)) f)
  by false true f g =
      let tail : drop (length text - 2) text ≡ 47 ∷ 42 ∷ [] = (bytes_eq-Decides (drop (length text - 2) text) (codes "/*")).0 g in
      let whole : front_of text ++ 47 ∷ 42 ∷ [] ≡ text = ap (λ l. front_of text ++ l) (sym tail) ∙ take-append-drop (length text - 2) text in
      ap (is_pattern_from true) (sym whole) ∙ below true (front_of text) ∙ topic_walk (front_of text) ∙ sym (if_topic_is (front_of text) (AllUnder (front_of text))) ∙ sym (λ i. parted text (f i) (g i))
  by false false f g =
      same_walk true text (λ _ e. clash (bytes_eq text (codes "*")) (ap (λ l. bytes_eq l (codes "*")) e) f) (λ w e. clash (ends_below text) (ap ends_below e ∙ ends_so w) g)
      ∙ topic_walk text ∙ sym (if_topic_is text (OneTopic text)) ∙ sym (λ i. parted text (f i) (g i))

-- ---- how far a walk for a pattern comes

abbrev end_by : ℕ → List ℕ → (t s u : Bool) → ℕ
end_by at bs t s u = cond t (pattern_end false (at + 1) bs) (cond s (pattern_end true (at + 1) bs) (cond u (at + 1) at))

abbrev walk_by : (t s u : Bool) → List ℕ → Bool
walk_by t s u xs = cond t (is_pattern_from false xs) (cond s (is_pattern_from true xs) (u && is_empty xs))

pattern_ends : (fresh : Bool) (at : ℕ) (bs : List ℕ) → Ends (is_pattern_from fresh) at bs (pattern_end fresh at bs)
pattern_ends fresh at [] = ends_there (is_pattern_from fresh) at refl
pattern_ends fresh at (b ∷ bs) = by (is_token_byte b) (b == 47 && not fresh) (b == 42 && fresh) refl refl refl (λ g. pattern_ends g (at + 1) bs) where
  none : (xs ys : List ℕ) (n : ℕ) (rest : List ℕ) → 1 < n → n ≤ suc (length xs) → (ys ≡ take n (b ∷ xs) ++ rest) → (zs : List ℕ) → (b ∷ zs ≡ ys) → is_empty zs ≡ false
  none [] ys n rest less within e zs f = absurd (let w : n ≤ suc 0 = within in omega arith)
  none (x ∷ xs) ys zero rest less within e zs f = absurd (omega arith)
  none (x ∷ xs) ys (suc zero) rest less within e zs f = absurd (omega arith)
  none (x ∷ xs) ys (suc (suc n)) rest less within e zs f = let same : b ∷ zs ≡ b ∷ x ∷ (take n xs ++ rest) = f ∙ e in let tail : zs ≡ x ∷ (take n xs ++ rest) = cc in ap is_empty tail

  starred : (n : ℕ) (rest : List ℕ) → ((xs : List ℕ) → is_pattern_from fresh (b ∷ xs) ≡ is_empty xs) → 1 < n → n ≤ length (b ∷ bs) → is_pattern_from fresh (take n (b ∷ bs) ++ rest) ≡ false
  starred zero rest step less within = absurd (omega arith)
  starred (suc m) rest step less within = step (take m bs ++ rest) ∙ none bs (b ∷ (take m bs ++ rest)) (suc m) rest less within refl (take m bs ++ rest) refl

  by : (t s u : Bool) → is_token_byte b ≡ t → (b == 47 && not fresh) ≡ s → (b == 42 && fresh) ≡ u → ((g : Bool) → Ends (is_pattern_from g) (at + 1) bs (pattern_end g (at + 1) bs))
      → Ends (is_pattern_from fresh) at (b ∷ bs) (end_by at bs (is_token_byte b) (b == 47 && not fresh) (b == 42 && fresh))
  by true s u e g f h = subst (Ends (is_pattern_from fresh) at (b ∷ bs)) (sym (λ i. end_by at bs (e i) (g i) (f i)))
      (ends_later (is_pattern_from fresh) (is_pattern_from false) at b bs (pattern_end false (at + 1) bs) (λ xs i. walk_by (e i) (g i) (f i) xs) (h false))
  by false true u e g f h = subst (Ends (is_pattern_from fresh) at (b ∷ bs)) (sym (λ i. end_by at bs (e i) (g i) (f i)))
      (ends_later (is_pattern_from fresh) (is_pattern_from true) at b bs (pattern_end true (at + 1) bs) (λ xs i. walk_by (e i) (g i) (f i) xs) (h true))
  by false false true e g f h = subst (Ends (is_pattern_from fresh) at (b ∷ bs)) (sym (λ i. end_by at bs (e i) (g i) (f i)))
      (1, (let r : at + 1 ≡ at + 1 = refl in r), (let l : 1 ≤ suc (length bs) = omega arith in l), ([], (λ i. walk_by (e i) (g i) (f i) [])), λ n less within rest. starred n rest (λ xs i. walk_by (e i) (g i) (f i) xs) less within)
  by false false false e g f h = subst (Ends (is_pattern_from fresh) at (b ∷ bs)) (sym (λ i. end_by at bs (e i) (g i) (f i)))
      (ends_here (is_pattern_from fresh) at b bs refl (λ xs i. walk_by (e i) (g i) (f i) xs))

pub pattern_told : (text : List ℕ) (end : ℕ) → end ≡ pattern_end true 0 text → IsLongest is_pattern text end
pattern_told text end e = longest_of is_pattern (is_pattern_from true) text end pattern_walk (subst (Ends (is_pattern_from true) 0 text) (sym e) (pattern_ends true 0 text))
