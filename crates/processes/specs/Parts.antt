-- A progress that fits, by whether its number is one with guards, as the code goes.
use Rattle.std.specs.Prelude.{ℕ, Bool, ◌&&◌, List, eqb, leb, if◌then◌else◌}
use Rattle.rules.specs.Layout.{process_at, process_channel, process_partner, process_guards, process_index, process_first_ready, process_first_guard, guard_places, due_chose}
use Rattle.fitting.specs.Twin.{word, zeros, has_guards, channel_part, partner_part, guards_stand, index_part, ready_part}

-- no guards, no guard index, no ready guard
abbrev pub no_guards : List ℕ → ℕ → ℕ → Bool
no_guards t K p =
    let w : ℕ → ℕ = λ f. word t (process_at K p f) in
    (eqb (w process_guards) 0 && zeros t (process_at K p process_first_guard) guard_places)
    && eqb (w process_index) 0 && eqb (w process_first_ready) 0

-- one without guards, of the number n: its channel and partner, and zeros behind them
abbrev pub exchange_fits : List ℕ → ℕ → ℕ → ℕ → ℕ → ℕ → Bool
exchange_fits t K N M p n =
    let w : ℕ → ℕ = λ f. word t (process_at K p f) in
    leb n due_chose && channel_part t K N M p n (w process_channel) && partner_part N n (w process_partner) && no_guards t K p

-- one with guards: no channel and no partner; its guards and zeros behind them, its guard index, its first ready guard
abbrev pub choice_fits : List ℕ → ℕ → ℕ → ℕ → ℕ → ℕ → Bool
choice_fits t K N M p n =
    let w : ℕ → ℕ = λ f. word t (process_at K p f) in
    let g = w process_guards in
    eqb (w process_channel) 0 && eqb (w process_partner) 0 && guards_stand t K N M p g (process_at K p process_first_guard)
    && index_part n g (w process_index) && ready_part n g (w process_first_ready)

-- one of the number n, with or without guards
abbrev pub numbered_fits : List ℕ → ℕ → ℕ → ℕ → ℕ → ℕ → Bool
numbered_fits t K N M p n = if has_guards n then choice_fits t K N M p n else exchange_fits t K N M p n
