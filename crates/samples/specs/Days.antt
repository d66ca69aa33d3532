-- What becomes of the postings of a day.
use Rattle.std.specs.Prelude.{◌≡◌, ℕ, ◌<◌, true, false, List, [], ◌∷◌, map, filter, length, slice_index_or, ◌≢◌, pos}
use Rattle.objects.specs.declared.records.Record.{Record}
use Rattle.objects.specs.Answers.{answered, bad}
use Rattle.objects.specs.Kinds.{Kind, Runs}
use Rattle.objects.specs.Leads.{Leads}
use Rattle.samples.specs.declared.movement.Movement.{Movement}
use Rattle.samples.specs.declared.posting.Posting.{Posting}

-- a posting is of this movement, on this line
abbrev pub Asks : Movement → ℕ → Posting → Type 0
Asks m line p = (p.line ≡ line) × (p.order ≡ m.order) × (p.record.operation ≡ m.operation)

-- a posting's record runs in s, and ends in t
abbrev pub Ran : {S : Type 0} → Kind S → S → Posting → S → Type 0
Ran k s p t = Runs k s p.record t

-- the postings' records, and those of the postings that stand, in their order
abbrev pub records_of : List Posting → List Record
records_of ps = map (λ p. p.record) ps

abbrev pub standing_records : List Posting → List Record
standing_records ps = records_of (filter (λ p. p.standing) ps)

-- the state after the records' operations, run in turn
abbrev pub replayed : {S : Type 0} → Kind S → S → List Record → S
replayed k s [] = s
replayed k s (r ∷ rs) = replayed k (k.ran s r.operation).1 rs

-- the records, if they lead from s anywhere, lead to u
abbrev pub LeadsOnlyTo : {S : Type 0} → Kind S → S → List Record → S → Type 0
LeadsOnlyTo {S} k s rs u = (t : S) → Leads k s rs t → u ≡ t

-- a posting that stands nowhere stands in for one past the last
abbrev pub no_posting : Posting
no_posting = record { line = 0; order = 0; «record» = answered (record { code = 0; unit = 0; key = 0; amount = pos 0 }) bad; standing = false }

abbrev pub posting_at : List Posting → ℕ → Posting
posting_at ps i = slice_index_or ps i no_posting

-- a posting before and after: all stays but the mark that it stands, which only one of this order loses
pub record KeptOne (order : ℕ) (p q : Posting) : Type 0 where
  pub same_line : q.line ≡ p.line
  pub same_order : q.order ≡ p.order
  pub same_record : q.record ≡ p.record
  pub no_rise : q.standing ≡ true → p.standing ≡ true
  pub same_mark : (p.order ≢ order) → q.standing ≡ p.standing

abbrev pub Kept : ℕ → List Posting → List Posting → Type 0
Kept order ps qs = (length qs ≡ length ps) × ((i : ℕ) → i < length ps → KeptOne order (posting_at ps i) (posting_at qs i))

-- what stood led from some lawful state to s; then what stands now leads from there to t
abbrev pub StillLeads : {S : Type 0} → Kind S → List Posting → S → List Posting → S → Type 0
StillLeads {S} k ps s qs t = (s₀ : S) → k.Lawful s₀ → Leads k s₀ (standing_records ps) s → Leads k s₀ (standing_records qs) t
