-- The code computes a program: "The software takes every octet string, record and edit without a fault. Nobody has to
-- check first". Of each operation three theorems:
--   runs   its own compiled function meets its contract: from any memory with the arguments in it the run returns,
--          without a fault (what `rt check` proves of it)
--   asks   the contract asks nothing of the arguments
--   gives  what the contract promises of the result is the program's result, by the numbers that 01 gives an answer
-- The arguments are a list: args.0 is the first, args.1.0 the second. One that is a slice is a reference, with the
-- octets now behind it; `ends` are the arguments when the operation returns.
use Rattle.std.specs.Prelude.{◌≡◌, List, ℕ}
use Rattle.codec.specs.Change.{remove, put}
use Rattle.codec.specs.Frame.{Outcome}
use Rattle.layout.specs.Answer.{Answer, by_number, reading_by_number, view_by_number, choice_by_number, rebuilt_by_number}
use Rattle.scope.specs.Outputs.{Leaves}
use Rattle.views.specs.Parts.{part_at, chosen_at}
use Rattle.reader.proofs.read.Statement as read
use Rattle.reader.proofs.read.Met as read-met
use Rattle.reader.proofs.read.Reads as read-claims
use Rattle.writer.proofs.write.Statement as write
use Rattle.writer.proofs.write.Met as write-met
use Rattle.writer.proofs.write.Reads as write-claims
use Rattle.desk.proofs.remove.Statement as removal
use Rattle.desk.proofs.remove.Met as remove-met
use Rattle.desk.proofs.remove.Reads as remove-claims
use Rattle.desk.proofs.replace.Statement as replace
use Rattle.desk.proofs.replace.Met as replace-met
use Rattle.desk.proofs.replace.Reads as replace-claims
use Rattle.visitors.proofs.copy.Statement as copy
use Rattle.visitors.proofs.copy.Met as copy-met
use Rattle.visitors.proofs.copy.Reads as copy-claims
use Rattle.views.proofs.view_answer.Statement as view_answer
use Rattle.views.proofs.view_answer.Met as view-answer-met
use Rattle.views.proofs.view_answer.Reads as view-answer-claims
use Rattle.views.proofs.view.Statement as view
use Rattle.views.proofs.view.Met as view-met
use Rattle.views.proofs.view.Reads as view-claims
use Rattle.views.proofs.choose_answer.Statement as choose_answer
use Rattle.views.proofs.choose_answer.Met as choose-answer-met
use Rattle.views.proofs.choose_answer.Reads as choose-answer-claims
use Rattle.views.proofs.choose.Statement as choose
use Rattle.views.proofs.choose.Met as choose-met
use Rattle.views.proofs.choose.Reads as choose-claims
use Rattle.sheet.proofs.sheet.Statement as sheet
use Rattle.sheet.proofs.sheet.Met as sheet-met
use Rattle.sheet.proofs.sheet.Reads as sheet-claims
use Rattle.rebuild.proofs.rebuild.Statement as rebuild
use Rattle.rebuild.proofs.rebuild.Met as rebuild-met
use Rattle.rebuild.proofs.rebuild.Reads as rebuild-claims
use Rattle.angle.proofs.exact.Statement as exact
use Rattle.angle.proofs.exact.Met as exact-met
use Rattle.angle.proofs.exact.Reads as exact-claims
use Rattle.demands.specs.Demands.{Program}
use Rattle.demands.specs.Defined.{handed, program}

pub record Runs (Statement : Type 1 → Type 2) {L A R E : Type 0} (Pre : L → A → Type 0) (Post : L → A → R → E
    → Type 0)
    (Gives : A → R → E → Type 0) : Type 2 where
  pub runs : {M : Type 1} → Statement M
  pub asks : (lives : L) (args : A) → Pre lives args
  pub gives : (lives : L) (args : A) (r : R) (ends : E) → Post lives args r ends → Gives args r ends

-- the answer of an operation with an output, and what stands there at its end
abbrev Handed : Answer → List ℕ → Answer × List ℕ → Type 0
Handed a out x = ◌≡◌ {A = Answer × List ℕ} (a, out) x

pub record Computes (p : Program) : Type 2 where
  pub read : Runs read.statement read-claims.Pre read-claims.Post
      (λ args r ends. reading_by_number r ≡ p.read args.0 args.1.0.now)
  pub write : Runs write.statement write-claims.Pre write-claims.Post
      (λ args a ends. Handed (by_number a) ends.1.0.now (p.write args.0 args.1.0.now))
  pub removes : Runs removal.statement remove-claims.Pre remove-claims.Post
      (λ args a ends. Handed (by_number a) ends.1.1.1.1.0.now
      (p.edit args.0 args.1.0.now args.1.1.0 args.1.1.1.0 remove args.1.1.1.1.0.now))
  pub replaces : Runs replace.statement replace-claims.Pre replace-claims.Post
      (λ args a ends. Handed (by_number a) ends.1.1.1.1.1.0.now
      (p.edit args.0 args.1.0.now args.1.1.0 args.1.1.1.0 (put args.1.1.1.1.0.now)
      args.1.1.1.1.1.0.now))
  pub copies : Runs copy.statement copy-claims.Pre copy-claims.Post
      (λ args a ends. Handed (by_number a) ends.1.1.1.0.now
      (p.copy args.0 args.1.0.now args.1.1.0 args.1.1.1.0.now))
  -- the part is the very part of the lent field, in memory too
  pub view_answer : Runs view_answer.statement view-answer-claims.Pre view-answer-claims.Post
      (λ args v ends. view_by_number v ≡ p.view args.0 args.1.0.now args.1.1.0)
  pub view : Runs view.statement view-claims.Pre view-claims.Post
      (λ args x ends. (x.now ≡ p.part args.0 args.1.0.now args.1.1.0)
      × (x.ref_ptr ≡ part_at args.1.0.ref_ptr (p.view args.0 args.1.0.now args.1.1.0)))
  pub choose_answer : Runs choose_answer.statement choose-answer-claims.Pre choose-answer-claims.Post
      (λ args c ends. choice_by_number c ≡ p.choose args.0 args.1.0.now args.1.1.0.now args.1.1.1.0)
  pub choose : Runs choose.statement choose-claims.Pre choose-claims.Post
      (λ args x ends. (x.now ≡ p.chosen args.0 args.1.0.now args.1.1.0.now args.1.1.1.0)
      × (x.ref_ptr ≡ chosen_at args.1.0.ref_ptr args.1.1.0.ref_ptr
      (p.choose args.0 args.1.0.now args.1.1.0.now args.1.1.1.0)))
  pub sheet : Runs sheet.statement sheet-claims.Pre sheet-claims.Post
      (λ args a ends. Handed (by_number a) ends.1.0.now (p.sheet args.0.now args.1.0.now))
  pub rebuild : Runs rebuild.statement rebuild-claims.Pre rebuild-claims.Post
      (λ args r ends. ((rebuilt_by_number r).cat ≡ (p.rebuild args.0.now args.1.0.now).0)
      × Handed (rebuilt_by_number r).answer ends.1.0.now (p.rebuild args.0.now args.1.0.now).1)
  pub exact : Runs exact.statement exact-claims.Pre exact-claims.Post
      (λ args a ends. (a.udeg ≡ p.udeg args.0) × (a.left ≡ p.left args.0))

handing : {o : Outcome (List ℕ)} {out : List ℕ} {a : Answer} {out' : List ℕ} → Leaves o out a out' → Handed a out' (handed o out)
handing p i = (p.answer i, p.output i)

pub computed : Computes program
computed = record {
  read = record { runs = read-met.met; asks = λ lives args. tt; gives = λ lives args r ends p. p };
  write = record { runs = write-met.met; asks = λ lives args. tt; gives = λ lives args a ends. handing };
  removes = record { runs = remove-met.met; asks = λ lives args. tt; gives = λ lives args a ends. handing };
  replaces = record { runs = replace-met.met; asks = λ lives args. tt; gives = λ lives args a ends. handing };
  copies = record { runs = copy-met.met; asks = λ lives args. tt; gives = λ lives args a ends. handing };
  view_answer = record { runs = view-answer-met.met; asks = λ lives args. tt; gives = λ lives args v ends p. p };
  view = record { runs = view-met.met; asks = λ lives args. tt; gives = λ lives args x ends p. p };
  choose_answer = record { runs = choose-answer-met.met; asks = λ lives args. tt; gives = λ lives args c ends p. p };
  choose = record { runs = choose-met.met; asks = λ lives args. tt; gives = λ lives args x ends p. p };
  sheet = record { runs = sheet-met.met; asks = λ lives args. tt; gives = λ lives args a ends. handing };
  rebuild = record { runs = rebuild-met.met; asks = λ lives args. tt; gives = λ lives args r ends p. (p.category, handing p.leaves) };
  exact = record { runs = exact-met.met; asks = λ lives args. tt; gives = λ lives args a ends p. p };
}
