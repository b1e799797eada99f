use Rattle.mo_lookup.proofs.Prelude.{option_copied, query_key, ◌-◌, ◌≡◌, ◌≤◌}
use Rattle.mo_lookup.proofs.BinarySearch.{IsSearch}
use Rattle.mo_lookup.proofs.search.find.Given as goal

abbrev pub invariant-halving : goal.invariant-halving
invariant-halving g l =
    (g.K.Keys.counter l.keys ≡ g.K.Keys.counter l.initial.keys)
    × (g.K.Keys.file l.keys ≡ g.K.Keys.file l.initial.keys)
    × IsSearch (g.K.Keys.listed l.initial.keys) (query_key (option_copied l.context) l.id) (g.K.Keys.listed l.keys)
    (g.K.Keys.counted l.initial.keys) (g.K.Keys.counted l.keys) l.low l.high

abbrev pub decreases-halving : goal.decreases-halving
decreases-halving g l = l.high - l.low

abbrev pub invariant-rising : goal.invariant-rising
invariant-rising g l =
    (g.K.Keys.counter l.keys ≡ g.K.Keys.counter l.fn.keys)
    × (g.K.Keys.file l.keys ≡ g.K.Keys.file l.fn.keys)
    × IsSearch (g.K.Keys.listed l.fn.keys) (query_key (option_copied l.context) l.id) (g.K.Keys.listed l.keys)
    (g.K.Keys.counted l.fn.keys) (g.K.Keys.counted l.keys) l.low l.high
    × (l.initial.low ≤ l.low)
    × (l.high ≡ l.initial.high)

abbrev pub decreases-rising : goal.decreases-rising
decreases-rising g l = l.high - l.low
