-- Tips for the words of a command line.
use Rattle.std.proofs.Common.{◌≡◌, ◌∙◌, ◌++◌, append_assoc, ◌+◌, ◌-◌, ◌<◌, ◌≤◌, ℕ, Bool, true, false, sym, ap, arith, map, drop, get_or, length, List, [], Option}
use Rattle.std.specs.Prelude.{Result, Ok, Err, IfOk, if◌then◌else◌}
use Rattle.std.proofs.lemmas.List.{at_drop_more, get_or-map, length-map}
use Rattle.clap.specs.Words.{Text}
use Rattle.xw_arguments.specs.Tips.{is_argument, tip_among, tip_at}

-- a text with a tip in it
pub has_tip : {T E : Type 0} (bytes : T → Text) (result : Result T E) (tip line made error start name end rest : Text) → tip ≡ line → line ≡ start ++ name ++ end → made ≡ error ++ start ++ name ++ end ++ rest
    → IfOk result (λ t. bytes t ≡ made) → IfOk result (λ t. bytes t ≡ error ++ tip ++ rest)
has_tip bytes (Ok t) tip line made error start name end rest is parts made_is same =
    let placed : error ++ (start ++ name ++ end) ++ rest ≡ error ++ start ++ name ++ end ++ rest = simp append_assoc in
    same ∙ made_is ∙ sym (ap (λ (x : Text). error ++ x ++ rest) (is ∙ parts) ∙ placed)
has_tip bytes (Err e) tip line made error start name end rest is parts made_is same = tt

-- the text of a word
pub text_at : {S : Type 0} (text : S → Text) (words : List S) (i : ℕ) (word : S) → i < length words → word ≡ get_or words i word → text word ≡ get_or (map text words) i []
text_at text words i word within is = ap text is ∙ sym (get_or-map text words i word [] within)

-- one more word
one_more : (words : List Text) (i : ℕ) (previous word : Text) → i < length words → previous ≡ get_or words (i - 1) [] → word ≡ get_or words i []
    → tip_among (get_or words (i - 1) []) (drop i words) ≡ (if is_argument previous word then tip_among word (drop (i + 1) words) else tip_at word)
one_more words i previous word within before is =
    ap (λ (p : Text). tip_among p (drop i words)) (sym before) ∙ at_drop_more (tip_among previous) words i [] within
    ∙ ap (λ (w : Text). if is_argument previous w then tip_among w (drop (i + 1) words) else tip_at w) (sym is)

-- a word that is no argument
pub found_first : {S : Type 0} (text : S → Text) (words : List S) (whole found : Option Text) (i : ℕ) (previous word : Text) (before here : S) → 2 ≤ i → i < length words
    → previous ≡ text before → word ≡ text here → before ≡ get_or words (i - 1) before → here ≡ get_or words i here
    → found ≡ tip_at word → whole ≡ tip_among (get_or (map text words) (i - 1) []) (drop i (map text words)) → is_argument previous word ≡ false → found ≡ whole
found_first text words whole found i previous word before here low within previous_is word_is before_is here_is found_is whole_is wrong =
    let texts = map text words in
    let inside : i < length texts = omega (arith, length-map words text, within) in
    let first = previous_is ∙ text_at text words (i - 1) before (omega (arith, low, within)) before_is in
    let second = word_is ∙ text_at text words i here within here_is in
    let more = one_more texts i previous word inside first second in
    let rest = tip_among word (drop (i + 1) texts) in
    sym (whole_is ∙ more ∙ ap (λ (b : Bool). if b then rest else tip_at word) wrong ∙ sym found_is)

-- all words are arguments yet
pub none_yet : {S : Type 0} (text : S → Text) (words : List S) (whole : Option Text) (i : ℕ) (previous word : Text) (before here : S) → 2 ≤ i → i < length words
    → previous ≡ text before → word ≡ text here → before ≡ get_or words (i - 1) before → here ≡ get_or words i here
    → whole ≡ tip_among (get_or (map text words) (i - 1) []) (drop i (map text words)) → is_argument previous word ≡ true
    → whole ≡ tip_among (get_or (map text words) (i + 1 - 1) []) (drop (i + 1) (map text words))
none_yet text words whole i previous word before here low within previous_is word_is before_is here_is whole_is right =
    let texts = map text words in
    let inside : i < length texts = omega (arith, length-map words text, within) in
    let first = previous_is ∙ text_at text words (i - 1) before (omega (arith, low, within)) before_is in
    let second = word_is ∙ text_at text words i here within here_is in
    let more = one_more texts i previous word inside first second in
    let rest = tip_among word (drop (i + 1) texts) in
    let same : i ≡ i + 1 - 1 = omega arith in
    whole_is ∙ more ∙ ap (λ (b : Bool). if b then rest else tip_at word) right
    ∙ ap (λ (w : Text). tip_among w (drop (i + 1) texts)) second ∙ ap (λ (k : ℕ). tip_among (get_or texts k []) (drop (i + 1) texts)) same
