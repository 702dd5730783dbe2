-- What an identity tells of its cell.
use Rattle.std.proofs.Common.{◌≡◌, ℕ, zero, suc, ◌==◌, if◌then◌else◌, Bool, true, false, List, Some, refl, ◌∙◌, ap, arith}
use Rattle.rp_base.specs.declared.identity.Kind.{Kind}
use Rattle.rp_base.specs.declared.identity.Kind.TheVariants as kind
use Rattle.rp_base.specs.Identity.{kind_named}
use Rattle.py_store.specs.declared.cell.Cell.{Cell}
use Rattle.py_store.specs.declared.cell.Cell.TheVariants as cell
use Rattle.py_store.specs.Cells.{cell_of}
use Rattle.py_store.specs.Identities.{NamespaceIsFirst, cell_kind, identity_as, identity_of, number_of}

own_number : (class_no at : ℕ) → (if suc at == 0 then class_no else suc at) ≡ suc at
own_number class_no at =
    let e : (suc at == 0) ≡ false = grind arith in
    ap (λ b. if b then class_no else suc at) e

number_as : (cells : List Cell) (at : ℕ) (c : Cell) (k : Kind) → cell_kind c ≡ Some k → number_of (identity_as cells (suc at) (Some c)) ≡ suc at
number_as cells at (cell.List items) k h = own_number 0 at
number_as cells at (cell.Dict entries shape) k h = own_number 0 at
number_as cells at (cell.Scope names parent) k h = cc
number_as cells at (cell.Namespace names reserved) k h = own_number 0 at
number_as cells at (cell.Function text function scope) k h = own_number 0 at
number_as cells at (cell.Class name base attributes) k h = refl
number_as cells at (cell.Instance class_no attributes) k h = own_number class_no at
number_as cells at (cell.Bound receiver method) k h = own_number 0 at
number_as cells at (cell.Iter source place shape) k h = own_number 0 at
number_as cells at (cell.View dict which) k h = own_number 0 at
number_as cells at (cell.Range start stop step) k h = own_number 0 at
number_as cells at (cell.Host host) k h = own_number 0 at
number_as cells at (cell.HostFunc host name) k h = own_number 0 at
number_as cells at (cell.Conn root namespace modules) k h = own_number 0 at
number_as cells at (cell.Modules root) k h = own_number 0 at
number_as cells at cell.Root k h = own_number 0 at

pub number_is_named : (cells : List Cell) (number : ℕ) (c : Cell) (k : Kind) → cell_of cells number ≡ Some c → cell_kind c ≡ Some k → number_of (identity_of cells number) ≡ number
number_is_named cells zero c k is h = cc
number_is_named cells (suc at) c k is h = ap (λ o. number_of (identity_as cells (suc at) o)) is ∙ number_as cells at c k h

same_kind : {k l : Kind} → Some k ≡ Some l → k ≡ l
same_kind e = cc

kind_as : (cells : List Cell) (at : ℕ) (c : Cell) (k : Kind) → ((cell_kind c ≡ Some kind.Namespace) → suc at ≡ 1) → (suc at ≡ 1 → cell_kind c ≡ Some kind.Namespace) → cell_kind c ≡ Some k
    → kind_named (identity_as cells (suc at) (Some c)).name (identity_as cells (suc at) (Some c)).inst_no ≡ k
kind_as cells at (cell.List items) k f g h = same_kind h
kind_as cells at (cell.Dict entries shape) k f g h = split (suc at == 1) refl
  where
    split : (b : Bool) → (suc at == 1) ≡ b → kind_named (identity_as cells (suc at) (Some (cell.Dict entries shape))).name (suc at) ≡ k
    split true e =
        let first : suc at ≡ 1 = grind arith in
        let bad : Some kind.Dict ≡ Some kind.Namespace = g first in
        cc
    split false e = ap (λ b. if b then kind.Namespace else kind.Dict) e ∙ same_kind h
kind_as cells at (cell.Scope names parent) k f g h = cc
kind_as cells at (cell.Namespace names reserved) k f g h =
    let first : suc at ≡ 1 = f refl in
    let e : (suc at == 1) ≡ true = grind arith in
    ap (λ b. if b then kind.Namespace else kind.Dict) e ∙ same_kind h
kind_as cells at (cell.Function text function scope) k f g h = same_kind h
kind_as cells at (cell.Class name base attributes) k f g h = same_kind h
kind_as cells at (cell.Instance class_no attributes) k f g h =
    let e : (suc at == 0) ≡ false = grind arith in
    ap (λ b. if b then kind.Class else kind.Instance) e ∙ same_kind h
kind_as cells at (cell.Bound receiver method) k f g h = same_kind h
kind_as cells at (cell.Iter source place shape) k f g h = same_kind h
kind_as cells at (cell.View dict which) k f g h = same_kind h
kind_as cells at (cell.Range start stop step) k f g h = same_kind h
kind_as cells at (cell.Host host) k f g h = same_kind h
kind_as cells at (cell.HostFunc host name) k f g h = same_kind h
kind_as cells at (cell.Conn root namespace modules) k f g h = same_kind h
kind_as cells at (cell.Modules root) k f g h = same_kind h
kind_as cells at cell.Root k f g h = same_kind h

pub kind_is_told : (cells : List Cell) (number : ℕ) (c : Cell) (k : Kind) → NamespaceIsFirst cells → cell_of cells number ≡ Some c → cell_kind c ≡ Some k → kind_named (identity_of cells number).name (identity_of cells number).inst_no ≡ k
kind_is_told cells zero c k first is h = cc
kind_is_told cells (suc at) c k first is h =
    let both = first (suc at) c is in
    ap (λ o. kind_named (identity_as cells (suc at) o).name (identity_as cells (suc at) o).inst_no) is ∙ kind_as cells at c k both.0 both.1 h
