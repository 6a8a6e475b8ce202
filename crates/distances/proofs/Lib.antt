mod Rows
mod HeldCosts
