-- A plan in code: its numbers by value, its text beside them. The mark is not among them: what is laid out by code has its id computed. Assumes nothing.
use Rattle.std.specs.Prelude.{ℕ, List, []}
use Rattle.profile.specs.Plan
use Rattle.profile.specs.Plan.{Plan, gray, rgb, xyb, plain_plan, with_device}
use Rattle.profile.specs.declared.Kind.{Kind}
use Rattle.profile.specs.declared.Kind.TheVariants as Kinds
use Rattle.profile.specs.declared.Content.{Content}
use Rattle.profile.specs.declared.Content.TheVariants.{Gray, Rgb, Xyb}
use Rattle.profile.specs.declared.Numbers.{Numbers}

-- the kind of what code has
abbrev pub kind_of : Content → Kind
kind_of (Gray c w) = Kinds.Gray
kind_of (Rgb c v m k) = Kinds.Rgb
kind_of Xyb = Kinds.Xyb

-- ---- the plan, without the mark, that numbers and a text make

abbrev pub content_by : Content → List ℕ → Plan.Content
content_by (Gray c w) t = gray (record { text = t; curve = c; white = w })
content_by (Rgb c v m k) t = rgb (record { text = t; curve = c; chad = m; columns = k; cicp = v })
content_by Xyb t = xyb

abbrev pub plan_of : Numbers → List ℕ → Plan
plan_of p t = with_device p.maker p.model (plain_plan p.intent (content_by p.content t))

-- the numbers with this maker and this model
abbrev pub numbers_with : ℕ → ℕ → Numbers → Numbers
numbers_with a b p = record { intent = p.intent; maker = a; model = b; content = p.content }

-- ---- the numbers and the text of a plan, at first without maker and model

abbrev pub plain_numbers : ℕ → Content → Numbers
plain_numbers i c = record { intent = i; maker = 0; model = 0; content = c }

abbrev pub content_of : Plan.Content → Content
content_of (gray g) = Gray g.curve g.white
content_of (rgb g) = Rgb g.curve g.cicp g.chad g.columns
content_of xyb = Xyb

abbrev pub numbers_for : ℕ → Plan.Content → Numbers
numbers_for i c = plain_numbers i (content_of c)

abbrev pub numbers_of : Plan → Numbers
numbers_of p = numbers_with p.maker p.model (numbers_for p.intent p.content)

-- XYB has no free text
abbrev pub text_for : Plan.Content → List ℕ
text_for (gray g) = g.text
text_for (rgb g) = g.text
text_for xyb = []

abbrev pub text_of : Plan → List ℕ
text_of p = text_for p.content
