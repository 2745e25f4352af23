-- The lines of an input up to the line `report`.
use Rattle.std.proofs.Common.{◌≡◌, ℕ, ◌+◌, ◌-◌, ◌<◌, ◌≤◌, ◌==◌, not, Bool, true, false, codes, List, [], ◌∷◌, ◌++◌, length, take, drop, get_or, position, All, Some, None, refl, ap, sym, ◌∙◌, arith, append-nil, append_assoc, length-append}
use Rattle.std.specs.List.{flat_map, position_or_len, before_first, after_first}
use Rattle.std.specs.Option.{option_map, option_map_or}
use Rattle.std.specs.Str.{bytes_eq}
use Rattle.std.proofs.Math.Seq.{take-append_seam, drop-append-add, get_or-append_seam}
use Rattle.std.proofs.lemmas.Bool.Decides.{nat_tests}
use Rattle.std.proofs.lemmas.Grind.{flat_map-append}
use Rattle.std.proofs.lemmas.List.{length-take-le, length-drop, nil_from_length, get_or_append_left}
use Rattle.std.proofs.lemmas.List.Elements.{All-nil, All-cons, All-append, All-get_or}
use Rattle.std.proofs.lemmas.List.Sums.{split_at_first, passes_at_first, position_or_len_is, prefix_len-le-length}
use Rattle.rl_text.specs.Text.{lines_of}
use Rattle.rl_check.specs.Inputs.{report_line, first_bytes, script_part, report_part}

-- whether a line is `report`
abbrev pub is_report : List ℕ → Bool
is_report line = bytes_eq line (codes "report")

-- the bytes of lines, each with its end
abbrev pub ended : List (List ℕ) → List ℕ
ended lines = flat_map (λ line. line ++ 10 ∷ []) lines

-- these lines stand before the rest of an input, and none of them is `report`
pub record Passed (input : List ℕ) (passed : List (List ℕ)) (rest : List ℕ) : Type 0 where
  pub lines : lines_of input ≡ passed ++ lines_of rest
  pub none : All (λ line. is_report line ≡ false) passed
  pub bytes : 0 < length rest → input ≡ ended passed ++ rest
  pub within : length passed + length rest ≤ length input

pub none_passed : (input : List ℕ) → Passed input [] input
none_passed input = record { lines = refl; none = All-nil (λ line. is_report line ≡ false); bytes = λ some. refl; within = omega arith }

-- the first line of a rest
pub record FirstOf (rest line after : List ℕ) : Type 0 where
  pub lines : lines_of rest ≡ line ∷ lines_of after
  pub before : line ≡ before_first (λ b. b == 10) rest
  pub behind : after ≡ after_first (λ b. b == 10) rest
  pub shorter : length after < length rest

module _ (input : List ℕ) (lines : List (List ℕ)) (rest line after : List ℕ) (so_far : Passed input lines rest) (first : FirstOf rest line after) where
  end : ℕ
  end = position_or_len (λ b. b == 10) rest

  -- a line that is not the last has an end
  has_end : 0 < length after → rest ≡ line ++ 10 ∷ after
  unfolding end
  has_end some =
      let within : end < length rest = omega (arith, ap length first.behind, length-drop (end + 1) rest, some) in
      let test = passes_at_first (λ b. b == 10) rest 0 within in
      let byte : get_or rest end 0 ≡ 10 = grind (arith, nat_tests) in
      split_at_first (λ b. b == 10) rest 0 within
      ∙ ap (λ xs. xs ++ get_or rest end 0 ∷ after_first (λ b. b == 10) rest) (sym first.before)
      ∙ ap (λ b. line ++ b ∷ after_first (λ b. b == 10) rest) byte ∙ ap (λ xs. line ++ 10 ∷ xs) (sym first.behind)

  ended_more : ended (lines ++ line ∷ []) ≡ ended lines ++ (line ++ 10 ∷ [])
  ended_more = flat_map-append (λ line. line ++ 10 ∷ []) lines (line ∷ []) ∙ ap (λ xs. ended lines ++ xs) (append-nil (line ++ 10 ∷ []))

  -- one more line that is not `report`
  pub passed_more : is_report line ≡ false → Passed input (lines ++ line ∷ []) after
  passed_more other = record {
    lines = so_far.lines ∙ ap (λ xs. lines ++ xs) first.lines ∙ sym (append_assoc lines (line ∷ []) (lines_of after));
    none = All-append (λ line. is_report line ≡ false) lines (line ∷ []) so_far.none (All-cons (λ line. is_report line ≡ false) line [] other (All-nil (λ line. is_report line ≡ false)));
    bytes = λ some.
        let there : 0 < length rest = omega (arith, first.shorter) in
        so_far.bytes there ∙ ap (λ xs. ended lines ++ xs) (has_end some ∙ sym (append_assoc line (10 ∷ []) after)) ∙ sym (append_assoc (ended lines) (line ++ 10 ∷ []) after)
        ∙ ap (λ xs. xs ++ after) (sym ended_more);
    within = omega (arith, so_far.within, first.shorter, length-append lines (line ∷ []));
  }

  there : 0 < length rest
  there = omega (arith, first.shorter)

  upto : lines_of input ≡ lines ++ line ∷ lines_of after
  upto = so_far.lines ∙ ap (λ xs. lines ++ xs) first.lines

  -- a line `report` is the first one
  found : is_report line ≡ true → report_line input ≡ Some (length lines)
  found is =
      let all = lines ++ line ∷ lines_of after in
      let count : length all ≡ length lines + length {A = List ℕ} (line ∷ lines_of after) = length-append lines (line ∷ lines_of after) in
      let at : position_or_len is_report all ≡ length lines = position_or_len_is is_report all (length lines) [] (omega (arith, count))
      (λ k l. ap is_report (get_or_append_left lines (line ∷ lines_of after) [] k l) ∙ All-get_or (λ line. is_report line ≡ false) lines k [] l so_far.none)
      (λ l. ap is_report (get_or-append_seam lines line (lines_of after) []) ∙ is) in
      let here : position is_report all ≡ Some (length lines) = grind (arith, nat_tests) in
      ap (position is_report) upto ∙ here

  -- the script stands before it
  pub script_found : is_report line ≡ true → take (length input - length rest) input ≡ script_part input
  script_found is =
      let bytes = so_far.bytes there in
      let count : length input ≡ length (ended lines) + length rest = ap length bytes ∙ length-append (ended lines) rest in
      let at : length input - length rest ≡ length (ended lines) = omega (arith, count) in
      ap (λ n. take n input) at ∙ ap (take (length (ended lines))) bytes ∙ take-append_seam (ended lines) rest
      ∙ sym (ap (λ o. option_map_or (λ n. first_bytes n input) o input) (found is) ∙ ap (λ xs. ended (take (length lines) xs)) upto ∙ ap ended (take-append_seam lines (line ∷ lines_of after)))

  -- the report stands behind it
  pub report_found : is_report line ≡ true → Some after ≡ report_part input
  unfolding end
  report_found is =
      let bytes = so_far.bytes there in
      let size : length line ≡ end = ap length first.before ∙ length-take-le end rest (prefix_len-le-length (λ b. not (b == 10)) rest) in
      let one : lines ++ line ∷ lines_of after ≡ (lines ++ line ∷ []) ++ lines_of after = sym (append_assoc lines (line ∷ []) (lines_of after)) in
      let count : length lines + 1 ≡ length (lines ++ line ∷ []) = sym (length-append lines (line ∷ [])) in
      let firsts : first_bytes (length lines + 1) input ≡ ended lines ++ (line ++ 10 ∷ []) =
      ap (λ xs. ended (take (length lines + 1) xs)) (upto ∙ one) ∙ ap (λ n. ended (take n ((lines ++ line ∷ []) ++ lines_of after))) count ∙ ap ended (take-append_seam (lines ++ line ∷ []) (lines_of after)) ∙ ended_more in
      let long : length (first_bytes (length lines + 1) input) ≡ length (ended lines) + (end + 1) =
      ap length firsts ∙ length-append (ended lines) (line ++ 10 ∷ []) ∙ ap (λ n. length (ended lines) + n) (length-append line (10 ∷ []) ∙ ap (λ n. n + 1) size) in
      ap Some (first.behind ∙ sym (ap (λ n. drop n input) long ∙ ap (drop (length (ended lines) + (end + 1))) bytes ∙ drop-append-add (ended lines) rest (end + 1)))
      ∙ sym (ap (option_map (λ n. drop (length (first_bytes (n + 1) input)) input)) (found is))

-- where no line is left, none is `report`
module _ (input : List ℕ) (lines : List (List ℕ)) (rest : List ℕ) (so_far : Passed input lines rest) (empty : length rest ≡ 0) where
  whole : lines_of input ≡ lines
  whole = so_far.lines ∙ ap (λ xs. lines ++ lines_of xs) (nil_from_length rest empty) ∙ append-nil lines

  not_found : report_line input ≡ None
  not_found =
      let at : position_or_len is_report lines ≡ length lines = position_or_len_is is_report lines (length lines) [] (omega arith)
      (λ k l. All-get_or (λ line. is_report line ≡ false) lines k [] l so_far.none) (λ l. absurd (omega (arith, l))) in
      let here : position is_report lines ≡ None = grind (arith, nat_tests) in
      ap (position is_report) whole ∙ here

  pub script_whole : input ≡ script_part input
  script_whole = sym (ap (λ o. option_map_or (λ n. first_bytes n input) o input) not_found)

  pub report_none : None ≡ report_part input
  report_none = sym (ap (option_map (λ n. drop (length (first_bytes (n + 1) input)) input)) not_found)

  pub count_whole : length lines ≡ length (lines_of input)
  count_whole = ap length (sym whole)
