use Rattle.std.specs.Prelude.{ℕ, ◌+◌, ◌*◌, ◌%◌, ◌^◌, ◌==◌, not, List, length, filter, fold, map, position, take, unwrap_or}
use Rattle.std.specs.Char.{is_ascii_digit}
use Rattle.std.specs.List.{flat_map, slice_split}

-- the number that decimal digits say
abbrev pub decimal_value : List ℕ → ℕ
decimal_value digits = fold (λ n digit. n * 10 + digit % 16) 0 digits

-- a line before its comment
abbrev pub line_before_comment : List ℕ → List ℕ
line_before_comment line = take (unwrap_or (position (λ b. b == 35) line) (length line)) line

-- the runs of digits in the lines of a text, outside comments
abbrev pub digit_runs : List ℕ → List (List ℕ)
digit_runs text =
    filter (λ run. not (length run == 0))
    (flat_map (λ line. slice_split (λ b. not (is_ascii_digit b)) (line_before_comment line))
    (slice_split (λ b. b == 10) text))

-- the numbers that they say, modulo two to the 32
abbrev pub numbers_of : List ℕ → List ℕ
numbers_of text = map (λ run. decimal_value run % 2 ^ 32) (digit_runs text)
